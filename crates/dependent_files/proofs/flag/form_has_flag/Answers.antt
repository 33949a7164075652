use Rattle.std.proofs.Common.{ap, ◌∙◌}
use Rattle.std.specs.List.{list_all}
use Rattle.c_macros.specs.MacroSplits.{is_macro}
use Rattle.dependent_files.proofs.FlagMaps.{form_is}
use Rattle.dependent_files.proofs.flag.form_has_flag.Goals as goal

pub returns : goal.returns
returns c = form_is c.args.form.now c.in_ok-parts.parts.items c.are_macros.result c.in_ok-parts.ensures.parts
    (c.are_macros.ensures ∙ ap (list_all is_macro) c.as_slice.ensures.value)
