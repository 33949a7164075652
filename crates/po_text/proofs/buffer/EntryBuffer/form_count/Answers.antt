use Rattle.std.proofs.Common.{arith}
use Rattle.po_text.proofs.Kept.{count_is}
use Rattle.po_text.proofs.buffer.EntryBuffer.form_count.Goals as goal

pub returns-clause-count : goal.returns-clause-count
returns-clause-count c =
    let b = c.self.inside in
    omega (arith, c.len.ensures, b.starts.ok.0, count_is b c.args.self.now c.self.view_is c.self.invariant)
