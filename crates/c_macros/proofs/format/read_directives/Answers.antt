use Rattle.std.proofs.Common.{rules}
use Rattle.c_macros.proofs.ReadingLemmas.{read_none, reads_more, reads_shorter, fits_in, no_directives, all_read}
use Rattle.c_macros.proofs.format.read_directives.Goals as goal

pub directives-init : goal.directives-init
directives-init c = read_none c.args.text.now _ _ (search rules) (search rules)

pub returns-in_default-read_directive-clause-err : goal.returns-in_default-read_directive-clause-err
returns-in_default-read_directive-clause-err c = no_directives c.args.text.now c.directives.rest.now
    c.in-Some.behind.now _ _ c.directives.invariant c.in-Some.ensures c.in_default-read_directive.ensures

pub directives-smaller : goal.directives-smaller
directives-smaller c = reads_shorter c.args.text.now c.directives.rest.now c.in-Some.behind.now
    c.in-Some-read_directive.after.now _ c.in-Some.ensures c.in-Some-read_directive.ensures

pub add_parts-requires : goal.add_parts-requires
add_parts-requires c = fits_in c.args.text.now c.directives.rest.now c.in-Some.behind.now
    c.in-Some-read_directive.after.now _ c.in-Some.ensures c.in-Some-read_directive.ensures _ _ c.directives.invariant

pub directives-preserved : goal.directives-preserved
directives-preserved c = reads_more c.args.text.now c.directives.rest.now c.in-Some.behind.now
    c.in-Some-read_directive.after.now _ c.in-Some.ensures c.in-Some-read_directive.ensures _ _ _ _
    c.directives.invariant c.in_ok-ask.ensures c.in_ok-add_parts.ensures

pub returns-clause-ok : goal.returns-clause-ok
returns-clause-ok c = all_read c.args.text.now c.directives.rest.now _ _ c.directives.invariant c.in_default.ensures
