-- Sets of catalogues as C holds them: how one is made from another, and what it answers.
use Rattle.std.specs.Prelude.{◌≡◌, ◌⊎◌, ℕ, ◌==◌, if◌then◌else◌, List, [], Option, Some, None, MatchOption}
use Rattle.std.specs.Str.{IsUtf8}
use Rattle.std.specs.Arc.{arc_value}
use Rattle.mo_image.specs.Entry.{Entry}
use Rattle.live_set.specs.Asks.{map_with}
use Rattle.live_set.specs.Loads.{LoadValue, map_of}
use Rattle.live_set.specs.Names.{IsName}
use Rattle.live_set.specs.Sets.{SetValue, HasAbsorbed, fold, map_in, no_loads}
use Rattle.live_set.specs.declared.name.NameFault.{NameFault}
use Rattle.live_set.specs.declared.name.NameFault.TheVariants.{BadName, Memory}
use Rattle.live_loads.specs.Batches.{joined_loads, version_of}
use Rattle.live_loads.specs.Seen.{SeenValue}
use Rattle.c_answers.specs.declared.opened.Opened.{Opened}
use Rattle.c_sets.specs.declared.sets.HeldSet.{HeldSet}
use Rattle.c_sets.specs.declared.sets.Origin.{Origin}
use Rattle.c_sets.specs.declared.sets.Origin.TheVariants.{Made, Lent, Left, Refused}
use Rattle.c_answers.specs.Answering.{IsClosedAnswer, Question, key_of}
use Rattle.c_answers.specs.Numbers.{no_fault, memory_fault, name_fault, the_fault, the_version}

-- the number of what is wrong with a name
abbrev pub name_number : NameFault → ℕ
name_number BadName = name_fault
name_number Memory = memory_fault

-- the set that was made, or that of the version that the reader is in, or that of one that left; none if it was refused
abbrev pub set_in : Origin → Option SetValue
set_in (Made set) = Some set
set_in (Lent reader) = Some (fold (joined_loads reader.batches))
set_in (Left reader set) = Some set
set_in Refused = None

-- the reader that lends the set of the version that it is in
abbrev pub reader_in : Origin → Option SeenValue
reader_in (Lent reader) = Some reader
reader_in _ = None

-- the reader that left; it has seen the version that it left
abbrev pub left_in : Origin → Option SeenValue
left_in (Left reader set) = Some reader
left_in _ = None

-- the reader, wherever it is
abbrev pub any_reader_in : Origin → Option SeenValue
any_reader_in (Lent reader) = Some reader
any_reader_in (Left reader set) = Some reader
any_reader_in _ = None

-- no set, for this reason
pub record IsWithout (fault : ℕ) (s : HeldSet) : Type 0 where
  pub refused : s.origin ≡ Refused
  pub fault_is : s.fault ≡ fault

-- a set that C made, with this property
abbrev pub IsMadeAs : (SetValue → Type 0) → Origin → Type 0
IsMadeAs Is (Made set) = Is set
IsMadeAs Is _ = ⊥

-- a set that C made, with this property, and no fault
pub record IsMade (Is : SetValue → Type 0) (s : HeldSet) : Type 0 where
  pub set_is : IsMadeAs Is s.origin
  pub fault_is : s.fault ≡ no_fault

-- the empty set
abbrev pub IsEmpty : HeldSet → Type 0
IsEmpty s = IsMade (λ set. set ≡ no_loads) s

-- a map for a text domain and a locale
abbrev pub load_of : List ℕ → List ℕ → List Entry → LoadValue
load_of domain locale map = record { domain = domain; locale = locale; map = map }

-- both are names
abbrev pub AreNames : List ℕ → List ℕ → Type 0
AreNames domain locale = IsName domain × IsName locale

-- the set with one more map, or out of memory, if both are names; otherwise the fault of a name
abbrev pub IsMore : SetValue → List ℕ → List ℕ → List Entry → HeldSet → Type 0
IsMore old domain locale map new =
    (AreNames domain locale
    × (IsMade (HasAbsorbed (load_of domain locale map) old) new ⊎ IsWithout (name_number Memory) new))
    ⊎ (¬ AreNames domain locale × IsWithout (name_number BadName) new)

-- like IsMore, with the map of what was opened; if that was refused, no set, for the same reason
abbrev pub IsWithSet : SetValue → List ℕ → List ℕ → Opened → HeldSet → Type 0
IsWithSet old domain locale opened new = MatchOption opened.catalogue (IsWithout opened.fault new)
    (λ shared. IsMore old domain locale (arc_value shared) new)

-- what is made of a set that C holds; if that was refused, no set, for the same reason
abbrev pub IsWith : HeldSet → List ℕ → List ℕ → Opened → HeldSet → Type 0
IsWith old domain locale opened new = MatchOption (set_in old.origin) (IsWithout old.fault new)
    (λ set. IsWithSet set domain locale opened new)

-- how many maps were added to a set that was made, or how many loads are published in the version that the reader
-- entered last
abbrev pub version_in : Origin → ℕ
version_in (Made set) = set.version
version_in (Lent reader) = version_of reader.batches
version_in (Left reader set) = version_of reader.batches
version_in Refused = 0

-- a number of a set: why it was refused, or why its reader's last call failed, and its version
abbrev pub set_number : HeldSet → ℕ → ℕ
set_number s which =
    if which == the_fault then s.fault else (if which == the_version then version_in s.origin else 0)

-- the map that answers a question in a text domain and a list of languages
abbrev pub answering_entries : SetValue → List ℕ → List ℕ → Question → List Entry
answering_entries set domain languages q = map_with (map_in set.held) domain languages (key_of q)

-- the answer to a question there; no bytes if the domain or the list isn't UTF-8
pub record IsAnswerIn (set : SetValue) (domain languages : List ℕ) (q : Question) (text : List ℕ) : Type 0 where
  pub asked : IsUtf8 domain → IsUtf8 languages → IsClosedAnswer (answering_entries set domain languages q) q text
  pub no_domain : ¬ IsUtf8 domain → text ≡ []
  pub no_languages : ¬ IsUtf8 languages → text ≡ []

-- the map that answers it, given the loads that are published
abbrev pub answering_over : List LoadValue → List ℕ → List ℕ → Question → List Entry
answering_over loads domain languages q = map_with (map_of loads) domain languages (key_of q)

-- the answer to a question over these loads; no bytes if the domain or the list isn't UTF-8
pub record IsAnswerOver (loads : List LoadValue) (domain languages : List ℕ) (q : Question) (text : List ℕ)
    : Type 0 where
  pub asked : IsUtf8 domain → IsUtf8 languages → IsClosedAnswer (answering_over loads domain languages q) q text
  pub no_domain : ¬ IsUtf8 domain → text ≡ []
  pub no_languages : ¬ IsUtf8 languages → text ≡ []

-- the answer in a set that was made or that of a reader that left, or over the loads that are published in the version
-- that the reader is in
abbrev pub IsAnswerFrom : Origin → List ℕ → List ℕ → Question → List ℕ → Type 0
IsAnswerFrom (Made set) domain languages q text = IsAnswerIn set domain languages q text
IsAnswerFrom (Lent reader) domain languages q text = IsAnswerOver (joined_loads reader.batches) domain languages q text
IsAnswerFrom (Left reader set) domain languages q text = IsAnswerIn set domain languages q text
IsAnswerFrom Refused domain languages q text = text ≡ []

-- the answer to a question to a set that C holds
abbrev pub IsSetAnswer : HeldSet → List ℕ → List ℕ → Question → List ℕ → Type 0
IsSetAnswer s = IsAnswerFrom s.origin
