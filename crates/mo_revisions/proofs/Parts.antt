-- Faults of the system-dependent part, and of the file of revision 0.0, as faults of the whole file.
use Rattle.std.proofs.Common.{◌≡◌, ℕ, ◌<◌, ◌≤◌, List, length, ap, subst, ◌∙◌, inl, inr}
use Rattle.std.specs.Prelude.{◌≢◌, Result, Ok, Err, IfErr, Option, Some, MatchOption}
use Rattle.mo_image.specs.MoFile.{most_file}
use Rattle.mo_file.specs.MoReading.{File, Refused}
use Rattle.mo_file.specs.declared.fault.MoFault.{MoFault}
use Rattle.mo_segments.specs.Expanding.{LacksSomeSegment}
use Rattle.mo_segments.specs.MessageStrings.{Strings, strings_of}
use Rattle.mo_segments.specs.Flat.{AreKept, flat_file}
use Rattle.mo_segments.specs.declared.fault.DependentFault.{DependentFault}
use Rattle.mo_segments.specs.declared.messages.Strings.{Strings as Held}
use Rattle.mo_revisions.specs.Revisions.{minor, segment_count, segments_start, IsDependentThere, IsStaticSound}
use Rattle.mo_revisions.specs.Refusing.{HasNoCatalogue, IsDependentFault, IsMessagesFault, IsPartFault}
use Rattle.mo_revisions.specs.declared.fault.AnyMoFault.{AnyMoFault}
use Rattle.mo_revisions.specs.declared.fault.AnyMoFault.TheVariants.{Tables, Dependent, Mo as OfMo}

part_fails : (file : File) (fault : AnyMoFault) → IsStaticSound file → (minor file ≢ 0) → IsPartFault file fault
    → IsMessagesFault file fault
part_fails file Tables sound more h = (sound, more, h)
part_fails file (Dependent fault) sound more h = (sound, more, h)
part_fails file (OfMo fault) sound more h = absurd h

pub messages_fail : {X : Type 0} (file : File) (r : Result X AnyMoFault) → IsStaticSound file → (minor file ≢ 0)
    → IfErr r (IsPartFault file) → IfErr r (IsMessagesFault file)
messages_fail file (Ok x) sound more h = tt
messages_fail file (Err fault) sound more h = part_fails file fault sound more h

pub segments_lack : (file : File) (table n : ℕ) (fault : DependentFault) → IsDependentThere file
    → table ≡ segments_start file → n ≡ segment_count file → LacksSomeSegment file.number file.bytes table n fault
    → IsDependentFault file fault
segments_lack file table n fault there start count h = record {
  there = there;
  fails = inl (subst (λ (k : ℕ). LacksSomeSegment file.number file.bytes (segments_start file) k fault) count
      (subst (λ (at : ℕ). LacksSomeSegment file.number file.bytes at n fault) start h));
}

-- the file of revision 0.0 was written of `slice`, and is refused
pub flat_fails : {Y : Type 0} (items : Y → List ℕ) (messages : List Strings) (kept slice : List Held) (o : Option Y)
    (v : Y) (fault : MoFault) → AreKept messages (strings_of kept) → slice ≡ kept
    → MatchOption o (most_file < length (flat_file (strings_of slice))) (λ f. (items f ≡ flat_file (strings_of slice))
    × (length (flat_file (strings_of slice)) ≤ most_file)) → o ≡ Some v → Refused (items v) fault
    → HasNoCatalogue messages fault
flat_fails {Y = Y} items messages kept slice o v fault are same written is refused =
    let flat : (items v ≡ flat_file (strings_of slice)) × (length (flat_file (strings_of slice)) ≤ most_file) =
    subst (λ (p : Option Y). MatchOption p (most_file < length (flat_file (strings_of slice)))
    (λ f. (items f ≡ flat_file (strings_of slice)) × (length (flat_file (strings_of slice)) ≤ most_file))) is written in
    let of_kept : items v ≡ flat_file (strings_of kept) =
    flat.0 ∙ ap (λ (k : List Held). flat_file (strings_of k)) same in
    inr (record {
      kept = strings_of kept;
      are_kept = are;
      fails = inr (
        subst (λ (k : List Held). length (flat_file (strings_of k)) ≤ most_file) same flat.1,
        subst (λ (b : List ℕ). Refused b fault) of_kept refused,
      );
    })
