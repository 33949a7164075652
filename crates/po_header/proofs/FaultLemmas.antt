-- Faults, and what they imply.
use Rattle.std.proofs.Common.{◌≡◌, ◌≢◌, ℕ, true, false, List, [], ◌∷◌, length, Result, Ok, Err, inl, inr, refl, arith}
use Rattle.std.specs.Prelude.{◌==◌, IfOk, IfErr}
use Rattle.std.proofs.lemmas.Bool.{ne_eqb}
use Rattle.po_header.specs.declared.ExprFault.{ExprFault}
use Rattle.po_header.specs.declared.ExprFault.TheVariants.{Malformed}
use Rattle.po_header.specs.Frames.{IsFault}

pub IsFault-map : {P Q : Type 0} (fault : ExprFault) → (P → Q) → IsFault fault P → IsFault fault Q
IsFault-map fault f (inl memory) = inl memory
IsFault-map fault f (inr (malformed, p)) = inr (malformed, f p)

pub IfErr-map : {T : Type 0} {P Q : Type 0} (r : Result T ExprFault) → (P → Q) → IfErr r (λ fault. IsFault fault P)
    → IfErr r (λ fault. IsFault fault Q)
IfErr-map (Ok x) f h = tt
IfErr-map (Err fault) f h = IsFault-map fault f h

pub IfOk-map : {T E : Type 0} {P Q : T → Type 0} (r : Result T E) → ((x : T) → P x → Q x) → IfOk r P → IfOk r Q
IfOk-map (Ok x) f h = f x h
IfOk-map (Err e) f h = tt

pub malformed_says : {P : Type 0} (fault : ExprFault) → fault ≡ Malformed → IsFault fault P → P
malformed_says fault e (inl memory) = absurd (cc (e, memory))
malformed_says fault e (inr (malformed, p)) = p

pub is_nothing : (xs : List ℕ) → true ≡ (length xs == 0) → xs ≡ []
is_nothing [] e = refl
is_nothing (x ∷ xs) e = let f = ne_eqb (length (x ∷ xs)) 0 (λ h. omega arith) in absurd (cc (e, f))

pub is_something : (xs : List ℕ) → false ≡ (length xs == 0) → xs ≢ []
is_something [] e none = absurd (cc e)
is_something (x ∷ xs) e none = absurd (cc none)
