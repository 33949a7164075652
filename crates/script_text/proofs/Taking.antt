-- Lines that are taken off a text.
use Rattle.std.proofs.Common.{◌≡◌, ◌∙◌, sym, ap, ℕ, ◌+◌, ◌<◌, List, [], ◌∷◌, ◌++◌, length, take, drop, arith, add-one}
use Rattle.std.proofs.Common.{append_assoc, drop-cons, length-append, length-drop}
use Rattle.std.proofs.lemmas.List.{append-nil, take_more}
use Rattle.std.proofs.lemmas.List.Folds.{concat-append}
use Rattle.std.specs.List.{concat}
use Rattle.devices.specs.Lines.{lines}
use Rattle.script_text.specs.Scanning.{IsFirstLine, HasTaken}

pub too_few : (count : ℕ) {i : ℕ} {text rest : List ℕ} → HasTaken i text rest → rest ≡ [] → i < count
    → length (lines text) < count
too_few count {i} {text} h e below =
    let none : drop i (lines text) ≡ [] = sym h.left ∙ ap lines e in
    omega (arith, length-drop i (lines text), ap length none)

pub takes_more : {i : ℕ} {text rest line behind : List ℕ} → HasTaken i text rest → IsFirstLine rest line behind
    → HasTaken (i + 1) text behind
takes_more {i} {text} {behind} h first =
    let ls : List (List ℕ) = lines text in
    let cut : drop i ls ≡ first.raw ∷ lines behind = sym h.left ∙ first.cut in
    let within : i < length ls = omega (arith, length-drop i ls, ap length cut) in
    let next = drop-cons ls i [] within in
    let front : take (i + 1) ls ≡ take i ls ++ first.raw ∷ [] = take_more ls i [] within
    ∙ ap (λ l. take i ls ++ l ∷ []) (cc (next, cut)) in
    record {
      within = omega arith;
      left = rw add-one (cc (next, cut));
      whole = rw (front, concat-append, append-nil first.raw, append_assoc)
          (h.whole ∙ ap (λ zs. concat (take i ls) ++ zs) first.whole);
      shorter = omega (arith, h.shorter, first.some, ap length first.whole, length-append first.raw behind);
      utf8 = first.utf8;
    }
