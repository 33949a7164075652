-- Private: a map of messages by their keys, as it grows.
use Rattle.std.specs.Prelude.{◌≡◌, ℕ, List, option_map}
use Rattle.std.specs.List.{AllByRecursion}
use Rattle.std.specs.Ordering.{nat_cmp, is_eq}
use Rattle.std.specs.Cmp.Lexicographic.{slice_cmp}
use Rattle.std.specs.Map.{lookup}
use Rattle.mo_segments.specs.MessageStrings.{Strings}
use Rattle.mo_segments.specs.Flat.{key_of, first_of}

-- the key of an entry is that of its message, and the first message with a key is the one in the map
pub record IsMapOf {K V : Type 0} (key : K → List ℕ) (strings : V → Strings) (entries : List (K × V))
    (messages : List Strings) : Type 0 where
  pub keyed : AllByRecursion (λ e. key e.0 ≡ key_of (strings e.1)) entries
  pub first : (q : List ℕ) → option_map strings (lookup (λ k. is_eq (slice_cmp nat_cmp q (key k))) entries)
      ≡ first_of messages q
