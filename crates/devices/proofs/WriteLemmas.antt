-- What several writes add up to.
use Rattle.std.proofs.Common.{◌≡◌, ◌∙◌, ◌+◌, ◌-◌, ◌≤◌, ℕ, List, [], ◌∷◌, ◌++◌, length, length-drop, take, drop, sym, ap}
use Rattle.std.proofs.Common.{Option, Some, None, subst, arith}
use Rattle.std.proofs.lemmas.List.{take_all}
use Rattle.std.proofs.Math.Seq.{take-add}
use Rattle.std.proofs.KnownBytes.{Appends-nil, Appends-trans}
use Rattle.std.specs.Io.KnownBytes.{Appends, Keeps}
use Rattle.devices.specs.Devices.{AppendsFront}

pub written_none : (a : Option (List ℕ)) (bytes : List ℕ) → Appends a a (take 0 bytes)
written_none a [] = Appends-nil a
written_none a (x ∷ xs) = Appends-nil a

-- the bytes that are not written yet
rest_is : (bytes : List ℕ) (written : ℕ) → take (length bytes - written) (drop written bytes) ≡ drop written bytes
rest_is bytes written = take_all (length bytes - written) (drop written bytes)
    (omega (arith, length-drop written bytes))

pub written_more : (a b c : Option (List ℕ)) (bytes : List ℕ) (written n : ℕ) → Appends a b (take written bytes)
    → Appends b c (take n (take (length bytes - written) (drop written bytes)))
    → Appends a c (take (written + n) bytes)
written_more a b c bytes written n had more =
    subst (λ bs. Appends a c bs) (ap (λ bs. take written bytes ++ take n bs) (rest_is bytes written)
    ∙ sym (take-add written n bytes))
    (Appends-trans a b c (take written bytes) (take n (take (length bytes - written) (drop written bytes))) had more)

pub within_more : (bytes : List ℕ) (written n : ℕ) → written ≤ length bytes
    → n ≤ length (take (length bytes - written) (drop written bytes)) → written + n ≤ length bytes
within_more bytes written n within more =
    omega (arith, within, more, ap length (rest_is bytes written), length-drop written bytes)

pub written_kept : (a b c : Option (List ℕ)) (bytes : List ℕ) → Appends a b bytes → Keeps b c → Appends a c bytes
written_kept None b c bytes had kept = tt
written_kept (Some xs) None c bytes had kept = absurd had
written_kept (Some xs) (Some ys) None bytes had kept = absurd kept
written_kept (Some xs) (Some ys) (Some zs) bytes had kept = kept ∙ had

pub written_all : (a b : Option (List ℕ)) (bytes : List ℕ) (written : ℕ) → written ≡ length bytes
    → Appends a b (take written bytes) → Appends a b bytes
written_all a b bytes written all had =
    subst (λ bs. Appends a b bs) (take_all written bytes (omega (arith, all))) had

pub front_of : (a b : Option (List ℕ)) (bytes : List ℕ) (written : ℕ) → Appends a b (take written bytes)
    → AppendsFront a b bytes
front_of a b bytes written had = (written, had)

pub ruleset many_writes = (written_none, written_kept, front_of)
