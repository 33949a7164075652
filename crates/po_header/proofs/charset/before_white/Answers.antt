use Rattle.memchr.specs.Find.{is_byte3}
use Rattle.po_header.proofs.ByteLemmas.{run_before, run_all}
use Rattle.po_header.proofs.charset.before_white.Goals as goal

pub returns-in-Some : goal.returns-in-Some
returns-in-Some c = run_before (is_byte3 32 9 10) c.args.text.now c.as_bytes.result.now c.range.result.now c.in-Some.end
    c.as_bytes.ensures.value c.in-Some.ensures c.range.ensures.value

pub returns-in-None : goal.returns-in-None
returns-in-None c = run_all (is_byte3 32 9 10) c.args.text.now c.as_bytes.result.now c.as_bytes.ensures.value
    c.in-None.ensures
