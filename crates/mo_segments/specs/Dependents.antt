-- The system-dependent messages of a file, in the order of its tables.
use Rattle.std.specs.Prelude.{◌≡◌, ◌⊎◌, ℕ, zero, suc, ◌+◌, ◌-◌, ◌*◌, ◌<◌, ◌≤◌, List, [], ◌∷◌, ◌++◌, length, Option}
use Rattle.mo_image.specs.MoFile.{most_file}
use Rattle.mo_image.specs.Tables.{word_at}
use Rattle.mo_segments.specs.Descriptors.{Descriptor, Ends, IsClosedAt, Knows, text_to, piece, cost}
use Rattle.mo_segments.specs.Expanding.{descriptor_at, HasFaultOf}
use Rattle.mo_segments.specs.MessageStrings.{Strings}
use Rattle.mo_segments.specs.declared.fault.DependentFault.{DependentFault}

-- how many there are, and where the tables of their originals and of their translations begin
abbrev pub dependent_count : (ℕ → List ℕ → ℕ) → List ℕ → ℕ
dependent_count number bytes = word_at number bytes 36

abbrev pub dependent_originals : (ℕ → List ℕ → ℕ) → List ℕ → ℕ
dependent_originals number bytes = word_at number bytes 40

abbrev pub dependent_translations : (ℕ → List ℕ → ℕ) → List ℕ → ℕ
dependent_translations number bytes = word_at number bytes 44

-- the header has its twelve words, and both tables lie in the file
pub record TablesLie (number : ℕ → List ℕ → ℕ) (bytes : List ℕ) : Type 0 where
  pub header : 48 ≤ length bytes
  pub originals : dependent_originals number bytes + 4 * dependent_count number bytes ≤ length bytes
  pub translations : dependent_translations number bytes + 4 * dependent_count number bytes ≤ length bytes

-- the descriptors of message i
abbrev pub original_at : (ℕ → List ℕ → ℕ) → List ℕ → List (Option (List ℕ)) → ℕ → Descriptor
original_at number bytes values i = descriptor_at number bytes values
    (word_at number bytes (dependent_originals number bytes + 4 * i))

abbrev pub translation_at : (ℕ → List ℕ → ℕ) → List ℕ → List (Option (List ℕ)) → ℕ → Descriptor
translation_at number bytes values i = descriptor_at number bytes values
    (word_at number bytes (dependent_translations number bytes + 4 * i))

-- ---- the messages

-- a descriptor of this many splits stands for this text: the text and a NUL are its pieces, with what the segments
-- between them stand for
pub record IsTextOf (d : Descriptor) (splits : ℕ) (text : List ℕ) : Type 0 where
  pub ends : Ends d splits
  pub closed : IsClosedAt d splits
  pub spelt : text ++ 0 ∷ [] ≡ text_to d splits ++ piece d splits

-- a message is added if the machine knows all its segments, and left out otherwise; both its descriptors take room
pub record IsAdded (o t : Descriptor) (room : ℕ) (before : List Strings) (left : ℕ) (messages : List Strings)
    : Type 0 where
  pub original_splits : ℕ
  pub original : List ℕ
  pub is_original : IsTextOf o original_splits original
  pub translation_splits : ℕ
  pub translation : List ℕ
  pub is_translation : IsTextOf t translation_splits translation
  pub known : Knows o original_splits → Knows t translation_splits → messages ≡ before ++ (original, translation) ∷ []
  pub left_out : ¬ (Knows o original_splits × Knows t translation_splits) → messages ≡ before
  pub room_is : left + cost t translation_splits + cost o original_splits ≡ room

-- after the first n system-dependent messages this room is left, and these are the messages
abbrev pub IsReadTo : (ℕ → List ℕ → ℕ) → List ℕ → List (Option (List ℕ)) → List Strings → ℕ → ℕ → List Strings
    → Type 0
IsReadTo number bytes values statics zero room messages = (room ≡ most_file) × (messages ≡ statics)
IsReadTo number bytes values statics (suc n) room messages = (more : ℕ) × (before : List Strings)
    × IsReadTo number bytes values statics n more before
    × IsAdded (original_at number bytes values n) (translation_at number bytes values n) more before room messages

-- these are the messages: the static ones, then the system-dependent ones that the machine knows
abbrev pub AreRead : (ℕ → List ℕ → ℕ) → List ℕ → List (Option (List ℕ)) → List Strings → List Strings → Type 0
AreRead number bytes values statics messages = (room : ℕ)
    × IsReadTo number bytes values statics (dependent_count number bytes) room messages

-- ---- the faults

-- the original of a message has this fault or, after an original that can be read, its translation
abbrev pub HasEitherFault : Descriptor → Descriptor → ℕ → DependentFault → Type 0
HasEitherFault o t room fault = HasFaultOf o room fault
    ⊎ ((splits : ℕ) × Ends o splits × (cost o splits ≤ room) × IsClosedAt o splits
    × HasFaultOf t (room - cost o splits) fault)

-- message i is the first that can't be read, for this reason
pub record IsFaultIn (number : ℕ → List ℕ → ℕ) (bytes : List ℕ) (values : List (Option (List ℕ)))
    (statics : List Strings) (fault : DependentFault) : Type 0 where
  pub i : ℕ
  pub within : i < dependent_count number bytes
  pub room : ℕ
  pub messages : List Strings
  pub before : IsReadTo number bytes values statics i room messages
  pub fails : HasEitherFault (original_at number bytes values i) (translation_at number bytes values i) room fault
