-- What a reader of entries has read of its text.

-- Callers pass `HasRead` on from call to call and need not look into it.
use Rattle.std.specs.Prelude.{◌≡◌, ℕ, Bool, true, false, List, [], ◌∷◌, ◌++◌, Option, Some, None, ◌⊎◌}
use Rattle.po_text.specs.declared.reader.EntryReader.{EntryReader}
use Rattle.po_text.specs.declared.fault.PoFault.{PoFault}
use Rattle.po_text.specs.Faults.{out_of_memory}
use Rattle.po_text.specs.Entries.{Entry}
use Rattle.po_text.specs.Lawful.{HasItsForms}
use Rattle.po_text.specs.Outcome.{Reads, IsFaulty}
use Rattle.po_text.specs.Parsing.{HasParsed, left_in}

-- the fault that the reader returned, and returns from then on
abbrev pub fault_of : EntryReader → Option PoFault
fault_of r = r.fault

-- out of memory, or a fault of the text
abbrev pub IsMemoryOrFaulty : List ℕ → PoFault → Type 0
IsMemoryOrFaulty text fault = (fault ≡ out_of_memory) ⊎ IsFaulty text fault.kind fault.line

-- the reader has read these entries, the first ones of the text
pub record HasRead (text : List ℕ) (entries : List Entry) (r : EntryReader) : Type 0 where
  pub reading : r.fault ≡ None → HasParsed text entries r.parser
  pub failed : (fault : PoFault) → r.fault ≡ Some fault → IsMemoryOrFaulty text fault

-- how much is left to read, which falls with each entry
abbrev pub left_of : EntryReader → ℕ
left_of r = left_in r.parser

-- true: this entry was read, the next one of the text; false: the text has no more entries
abbrev pub GoesOn : Bool → List ℕ → List Entry → Entry → EntryReader → Type 0
GoesOn true text entries e r = HasItsForms e × HasRead text (entries ++ (e ∷ [])) r
GoesOn false text entries e r = Reads text entries × HasRead text entries r
