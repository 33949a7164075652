use Rattle.std.proofs.lemmas.List.Splits.{slice_split_first}
use Rattle.live_set.proofs.Listing.{whole_split}
use Rattle.script_text.specs.LineFields.{is_tab}
use Rattle.script_text.proofs.fields.split_field.Goals as goal

pub returns-in-Some : goal.returns-in-Some
returns-in-Some c =
    let cut = c.in-Some.ensures.cases in
    rw (cut.front_is, cut.behind_is) (slice_split_first is_tab c.args.text.now 0 cut.within)

pub returns-in-None : goal.returns-in-None
returns-in-None c = whole_split is_tab c.args.text.now c.in-None.ensures.cases
