-- Names are ASCII, and so UTF-8.
use Rattle.std.proofs.Common.{◌≡◌, ℕ, zero, suc, ◌<◌, ◌≤◌, nat_le, ◌==◌, Bool, ◌||◌, true, List, [], ◌∷◌, arith}
use Rattle.std.proofs.Common.{inl, inr}
use Rattle.std.proofs.lemmas.Bool.{or_cases, and_parts, leb-true, eqb-true}
use Rattle.std.proofs.lemmas.Str.{IsUtf8-from_ascii}
use Rattle.std.specs.Str.{IsAscii, IsUtf8}
use Rattle.std.specs.Int.{is_in_range}
use Rattle.std.specs.List.{AllByRecursion}
use Rattle.live_set.specs.Names.{IsName, is_name_byte}

module _ (b : ℕ) where
  either : (x y : Bool) → (x ≡ true → b < 128) → (y ≡ true → b < 128) → (x || y) ≡ true → b < 128
  either x y of_x of_y is = elim (or_cases x y is) [
    | inl e ↦ of_x e
    | inr e ↦ of_y e
  ]

  within : (lo hi : ℕ) → hi < 128 → is_in_range lo hi b ≡ true → b < 128
  within lo hi low is = let at : b ≤ hi = leb-true b hi (and_parts (nat_le lo b) (nat_le b hi) is).1 in
      omega (arith, at, low)

  one : (k : ℕ) → k < 128 → (b == k) ≡ true → b < 128
  one k low is = let at : b ≡ k = eqb-true b k is in omega (arith, at, low)

  ascii_of_name : is_name_byte b ≡ true → b < 128
  ascii_of_name = either _ _
      (either _ _ (either _ _ (within 48 57 (omega arith)) (within 65 90 (omega arith))) (within 97 122 (omega arith)))
      (either _ _ (one 95 (omega arith)) (either _ _ (one 45 (omega arith)) (either _ _ (one 46 (omega arith))
      (either _ _ (one 64 (omega arith)) (one 43 (omega arith))))))

each_ascii : (text : List ℕ) → AllByRecursion (λ b. is_name_byte b ≡ true) text → IsAscii text
each_ascii [] all i = omega arith
each_ascii (b ∷ bs) all zero = ascii_of_name b all.0
each_ascii (b ∷ bs) all (suc i) = each_ascii bs all.1 i

-- a name is a text
pub name_is_text : (text : List ℕ) → IsName text → IsUtf8 text
name_is_text text name = IsUtf8-from_ascii text (each_ascii text name.each)
