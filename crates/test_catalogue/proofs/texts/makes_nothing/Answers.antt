use Rattle.std.proofs.Common.{List, [], arith}
use Rattle.catalogue.specs.Entry.{Entry}
use Rattle.catalogue.specs.Map.{IsLawful}
use Rattle.mo_image.proofs.MoLengths.{length-spelling}
use Rattle.test_catalogue.proofs.texts.makes_nothing.Goals as goal

abbrev nothing : List Entry
nothing = []

empty_lawful : IsLawful nothing
empty_lawful = record { rises = tt; each = tt; charset = tt; fits = omega (arith, length-spelling nothing) }

pub from_sorted-requires : goal.from_sorted-requires
from_sorted-requires g = rw g.new.ensures.items empty_lawful

pub from_strings-requires : goal.from_strings-requires
from_strings-requires g = rw g.new-2.ensures.items empty_lawful
