use Rattle.catserve.proofs.Common.{◌++◌, escaped_text}
use Rattle.catserve.proofs.Writing.{writes_more, writes_all}
use Rattle.catserve.proofs.output.write_escaped.Goals as goal

pub runs-preserved : goal.runs-preserved
runs-preserved c =
    let whole = c.args.output.now.items ++ escaped_text c.args.text.now in
    writes_more whole c.runs.output.items c.extend_from_slice.new.self.items
    c.write_byte.new.output.items c.runs.rest.now c.in-Some.at
    c.runs.invariant c.in-Some.ensures c.in_ok-extend_from_slice.ensures.items c.in_ok-write_byte.ensures

pub returns : goal.returns
returns c =
    let whole = c.args.output.now.items ++ escaped_text c.args.text.now in
    writes_all whole c.runs.output.items c.extend_from_slice-2.new.self.items c.runs.rest.now
    c.extend_from_slice-2.result c.runs.invariant c.in_default.ensures c.extend_from_slice-2.ensures.items
