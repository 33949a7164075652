-- What reading segments and descriptors promises.
use Rattle.std.specs.Prelude.{◌≡◌, ◌↔◌, ℕ, ◌+◌, ◌*◌, ◌≤◌, ◌<◌, List, [], ◌∷◌, ◌++◌, Option, IsTrue, ⊤}
use Rattle.mo_segments.specs.Descriptors.{Descriptor, Ends, Knows, IsClosedAt, text_to, piece, cost}
use Rattle.mo_segments.specs.Descriptors.{IsSegment, LeavesFile, LeavesText, TakesMore, LacksSegment, IsOpen}
use Rattle.mo_segments.specs.declared.descriptors.Expanded.{Expanded}
use Rattle.mo_segments.specs.declared.fault.DependentFault.{DependentFault}
use Rattle.mo_segments.specs.declared.fault.DependentFault.TheVariants.{Descriptor as OutOfFile, SegmentNumber, Text}
use Rattle.mo_segments.specs.declared.fault.DependentFault.TheVariants.{OpenText, Segment, Swollen, Memory}

abbrev pub descriptor_at : (ℕ → List ℕ → ℕ) → List ℕ → List (Option (List ℕ)) → ℕ → Descriptor
descriptor_at number bytes values at = record { number = number; bytes = bytes; values = values; at = at }

-- what was read of a descriptor
pub record IsExpandedOf (d : Descriptor) (room : ℕ) (e : Expanded) : Type 0 where
  pub splits : ℕ
  pub ends : Ends d splits
  pub closed : IsClosedAt d splits
  pub spelt : e.text.items ++ 0 ∷ [] ≡ text_to d splits ++ piece d splits
  pub knows : IsTrue e.known ↔ Knows d splits
  pub taken : e.cost ≡ cost d splits
  pub fits : cost d splits ≤ room

abbrev pub IsExpanded : (ℕ → List ℕ → ℕ) → List ℕ → List (Option (List ℕ)) → ℕ → ℕ → Expanded → Type 0
IsExpanded number bytes values at room e = IsExpandedOf (descriptor_at number bytes values at) room e

-- the fault of a descriptor, or out of memory
abbrev pub HasFaultOf : Descriptor → ℕ → DependentFault → Type 0
HasFaultOf d room OutOfFile = LeavesFile d
HasFaultOf d room Text = LeavesText d
HasFaultOf d room SegmentNumber = LacksSegment d
HasFaultOf d room OpenText = IsOpen d
HasFaultOf d room Swollen = TakesMore d room
HasFaultOf d room Memory = ⊤
HasFaultOf d room _ = ⊥

abbrev pub HasFault : (ℕ → List ℕ → ℕ) → List ℕ → List (Option (List ℕ)) → ℕ → ℕ → DependentFault → Type 0
HasFault number bytes values at room fault = HasFaultOf (descriptor_at number bytes values at) room fault

-- each segment of a table lies in the file and ends in a NUL
abbrev pub AreSegments : (ℕ → List ℕ → ℕ) → List ℕ → ℕ → ℕ → Type 0
AreSegments number bytes table n = (i : ℕ) → i < n → IsSegment number bytes (table + 8 * i)

-- one of them doesn't, or memory has run out
abbrev pub LacksSomeSegment : (ℕ → List ℕ → ℕ) → List ℕ → ℕ → ℕ → DependentFault → Type 0
LacksSomeSegment number bytes table n Segment = (i : ℕ) × (i < n) × ¬ IsSegment number bytes (table + 8 * i)
LacksSomeSegment number bytes table n Memory = ⊤
LacksSomeSegment number bytes table n _ = ⊥
