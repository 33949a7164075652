use Rattle.std.proofs.Common.{rules}
use Rattle.catalogue_drafts.proofs.PoEntries.{kept_plural}
use Rattle.catalogue_drafts.proofs.collected.kept_of.Goals as goal

pub returns-in_ok-plural_of-in-Some : goal.returns-in_ok-plural_of-in-Some
returns-in_ok-plural_of-in-Some c =
    kept_plural c.args.options c.args.entry.now c.in-Some.plural.now _ (search rules) (c.in-Some.ensures)
    c.requires.lawful.plural c.in_ok-plural_of-in-Some.ensures
