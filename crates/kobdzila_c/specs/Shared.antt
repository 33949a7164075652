-- Which memory belongs to C and which to this library, for how long, and what is in it.
use Rattle.std.specs.Prelude.{◌≡◌, ℕ, List, Bool}
use base.Fraction.{full_share}
use base.Fml.{Lft, Share, Fml, fsep, fex, flft}
use mir.Syntax.{erased}
use denote.Builtin.{u8}
use denote.Ref.{Bor}
use denote.RawPtr.{Ptr, lies_at}
use denote.RattleType.{RattleType}
use denote.Slice.{ShrSlice}
use denote.Struct.Lending.{lent_at}
use Rattle.po_checks.specs.declared.options.Options.{Options}
use Rattle.c_answers.specs.declared.opened.Opened.{Opened}
use Rattle.c_answers.specs.contracts.opened.Opened.{the_row}
use Rattle.c_sets.specs.declared.sets.HeldSet.{HeldSet}
use Rattle.c_sets.specs.contracts.sets.HeldSet.{the_row as set_row}
use Rattle.c_stores.specs.declared.stores.HeldStore.{HeldStore}
use Rattle.c_stores.specs.contracts.stores.HeldStore.{the_row as store_row}
use Rattle.c_stores.specs.declared.stores.HeldNotice.{HeldNotice}
use Rattle.c_stores.specs.contracts.stores.HeldNotice.{the_row as notice_row}
use Rattle.c_stores.specs.declared.stores.HeldEntrance.{HeldEntrance}
use Rattle.c_stores.specs.contracts.stores.HeldEntrance.{the_row as entrance_row}
use Rattle.c_outputs.specs.declared.outputs.HeldOutput.{HeldOutput}
use Rattle.c_outputs.specs.contracts.outputs.HeldOutput.{the_row as output_row}
use Rattle.live_set.specs.declared.places.Places.{Places}
use Rattle.live_set.specs.contracts.places.Places.{the_row as places_row}
use Rattle.c_answers.specs.Answering.{IsClosedAnswer, Question, map_of}
use Rattle.c_answers.specs.Listing.{text}
use Rattle.c_sets.specs.Making.{IsSetAnswer}
use Rattle.c_opening.specs.Opening.{IsOpenedPo}
use Rattle.c_sets.specs.NamedPlaces.{IsSetAnswerAt}
use Rattle.c_outputs.specs.Outputs.{text_in}

-- what was opened is at p, and its holder alone may use it
abbrev pub holds : Ptr → Opened → Fml
holds p c = lies_at the_row full_share p c

-- at p is something opened, or to be opened, with this property
abbrev pub opened_at : Ptr → (Opened → Type 0) → Fml
opened_at p Is = fex Opened (λ c. fex (Is c) (λ _. holds p c))

-- at out is the catalogue of a PO text, or why it is refused
abbrev pub po_opened_at : Ptr → List ℕ → Options → Bool → Fml
po_opened_at out bytes options is_strict = opened_at out (IsOpenedPo bytes options is_strict)

-- the right to look up: c is shared at p for the lifetime κ, and a share q of κ's token shows that κ lasts
abbrev pub reads : Lft → Share → Ptr → Opened → Fml
reads κ q p c = fsep (lent_at the_row p c κ) (flft κ q)

-- bytes that live as long as κ, by their address and their number
abbrev pub Text : Lft → RattleType
Text κ = ShrSlice erased κ u8

-- at out is the answer to a question, shared for as long as κ
abbrev pub answer_at : Lft → Ptr → Opened → Question → Fml
answer_at κ out c q = fex (Bor (List ℕ)) (λ r. fex (IsClosedAnswer (map_of c) q r.now)
    (λ _. lies_at (Text κ) full_share out r))

-- at out is a listed string, shared for as long as κ
abbrev pub string_at : Lft → Ptr → Opened → ℕ → ℕ → ℕ → Fml
string_at κ out c part i k = fex (Bor (List ℕ)) (λ r. fex (r.now ≡ text c part i k)
    (λ _. lies_at (Text κ) full_share out r))

-- ---- sets of catalogues, and readers, which lend one

-- a set is at p, and its holder alone may use it
abbrev pub holds_set : Ptr → HeldSet → Fml
holds_set p s = lies_at set_row full_share p s

-- at out is a set with this property
abbrev pub set_at : Ptr → (HeldSet → Type 0) → Fml
set_at out Is = fex HeldSet (λ s. fex (Is s) (λ _. holds_set out s))

-- the right to look up: s is shared at p for the lifetime κ, and a share q of κ's token shows that κ lasts
unfoldable pub reads_set : Lft → Share → Ptr → HeldSet → Fml
reads_set κ q p s = fsep (lent_at set_row p s κ) (flft κ q)

-- at out is the answer to a question in a text domain and a list of languages, shared for as long as κ
abbrev pub set_answered : Lft → Ptr → HeldSet → List ℕ → List ℕ → Question → Fml
set_answered κ out s domain languages q = fex (Bor (List ℕ)) (λ r. fex (IsSetAnswer s domain languages q r.now)
    (λ _. lies_at (Text κ) full_share out r))

-- ---- live stores, notices and entrances

-- a store is at p, and its holder alone may use it
abbrev pub holds_store : Ptr → HeldStore → Fml
holds_store p s = lies_at store_row full_share p s

-- at p is a store with this property
abbrev pub store_at : Ptr → (HeldStore → Type 0) → Fml
store_at p Is = fex HeldStore (λ s. fex (Is s) (λ _. holds_store p s))

-- the right to use a shared store: it is shared at p for the lifetime κ, and a share q of κ's token shows that κ lasts
abbrev pub reads_store : Lft → Share → Ptr → HeldStore → Fml
reads_store κ q p s = fsep (lent_at store_row p s κ) (flft κ q)

-- a notice is at p, and its holder alone may use it
abbrev pub holds_notice : Ptr → HeldNotice → Fml
holds_notice p n = lies_at notice_row full_share p n

-- at p is a notice with this property
abbrev pub notice_at : Ptr → (HeldNotice → Type 0) → Fml
notice_at p Is = fex HeldNotice (λ n. fex (Is n) (λ _. holds_notice p n))

-- the right to use a shared notice: it is shared at p for the lifetime κ, and a share q of κ's token shows that κ lasts
abbrev pub reads_notice : Lft → Share → Ptr → HeldNotice → Fml
reads_notice κ q p n = fsep (lent_at notice_row p n κ) (flft κ q)

-- an entrance is at p, and its holder alone may use it
abbrev pub holds_entrance : Ptr → HeldEntrance → Fml
holds_entrance p e = lies_at entrance_row full_share p e

-- at p is an entrance with this property
abbrev pub entrance_at : Ptr → (HeldEntrance → Type 0) → Fml
entrance_at p Is = fex HeldEntrance (λ e. fex (Is e) (λ _. holds_entrance p e))

-- the right to use a shared entrance: it is shared at p for the lifetime κ, and a share q of κ's token shows that κ
-- lasts
abbrev pub reads_entrance : Lft → Share → Ptr → HeldEntrance → Fml
reads_entrance κ q p e = fsep (lent_at entrance_row p e κ) (flft κ q)

-- ---- lists of languages that are looked at once

-- at out are places with this property
abbrev pub places_at : Ptr → (Places → Type 0) → Fml
places_at out Are = fex Places (λ p. fex (Are p) (λ _. lies_at places_row full_share out p))

-- at out is the answer to a question at these places of a set, shared for as long as κ
abbrev pub set_answered_at : Lft → Ptr → HeldSet → List ℕ → Question → Fml
set_answered_at κ out s places q = fex (Bor (List ℕ)) (λ r. fex (IsSetAnswerAt s places q r.now)
    (λ _. lies_at (Text κ) full_share out r))

-- ---- what is made of a catalogue or a PO text

-- what was made is at p, and its holder alone may use it
abbrev pub holds_output : Ptr → HeldOutput → Fml
holds_output p o = lies_at output_row full_share p o

-- at p is something made, with this property
abbrev pub output_at : Ptr → (HeldOutput → Type 0) → Fml
output_at p Is = fex HeldOutput (λ o. fex (Is o) (λ _. holds_output p o))

-- the right to read what was made: it is shared at p for the lifetime κ, and a share q of κ's token shows that κ lasts
abbrev pub reads_output : Lft → Share → Ptr → HeldOutput → Fml
reads_output κ q p o = fsep (lent_at output_row p o κ) (flft κ q)

-- at out are the bytes of the PO text, shared for as long as κ
abbrev pub text_lent : Lft → Ptr → HeldOutput → Fml
text_lent κ out o = fex (Bor (List ℕ)) (λ r. fex (r.now ≡ text_in o.output) (λ _. lies_at (Text κ) full_share out r))
