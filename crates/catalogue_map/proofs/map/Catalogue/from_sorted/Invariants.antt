use Rattle.catalogue_map.proofs.InStrings.{Lists}
use Rattle.catalogue_map.proofs.map.Catalogue.from_sorted.Given as goal

abbrev pub invariant-messages : goal.invariant-messages
invariant-messages l = Lists l.strings.items l.message-iterator.rest.items l.fn.messages.items
