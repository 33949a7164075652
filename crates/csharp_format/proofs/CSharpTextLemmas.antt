-- A text, read piece by piece.
use Rattle.std.proofs.Common.{◌≡◌, ℕ, List, [], ◌∷◌, ◌++◌, Option, None, Some, refl, sym, ap, subst, ◌∙◌}
use Rattle.std.proofs.Common.{append_assoc, Bool, true, false, length, ◌==◌, arith}
use Rattle.std.proofs.lemmas.Bool.{eqb-true}
use Rattle.std.proofs.lemmas.List.{append-nil}
use Rattle.std.specs.List.{flat_map}
use Rattle.numbered_arguments.specs.declared.Numbered.{Numbered}
use Rattle.csharp_format.specs.CSharpItems.{piece}
use Rattle.csharp_format.specs.CSharpFormat.{ArePieces, asks, HasSignature}

-- up to rest the text asks for these: what rest asks for comes behind them
pub record HasRead (text rest : List ℕ) (asked : List Numbered) : Type 0 where
  pub on : (more : List Numbered) → HasSignature rest more → HasSignature text (asked ++ more)
  pub back : (all : List Numbered) → HasSignature text all
      → (more : List Numbered) × HasSignature rest more × (all ≡ asked ++ more)

pub read_nothing : (text : List ℕ) → HasRead text text []
read_nothing text = record {
  on = λ more h. h;
  back = λ all h. (all, h, refl);
}

-- what a text asks for behind its first piece
behind_first : (rest after : List ℕ) (p : Option ℕ) (all : List Numbered) → piece rest ≡ Some (p, after)
    → (pieces : List (Option ℕ)) → ArePieces pieces rest → all ≡ flat_map asks pieces
    → (more : List Numbered) × HasSignature after more × (all ≡ asks p ++ more)
behind_first rest after p all e [] none f = absurd (cc (e, ap piece none))
behind_first rest after p all e (q ∷ more) (then, g, others) f =
    let found : Some (p, after) ≡ Some (q, then) = sym e ∙ g in
    let whole : (p, after) ≡ (q, then) = cc found in
    let piece_is : p ≡ q = ap (λ (x : Option ℕ × List ℕ). x.0) whole in
    let rest_is : after ≡ then = ap (λ (x : Option ℕ × List ℕ). x.1) whole in (
      flat_map asks more,
      (more, subst (λ (t : List ℕ). ArePieces more t) (sym rest_is) others, refl),
      f ∙ ap (λ (x : Option ℕ). asks x ++ flat_map asks more) (sym piece_is),
    )

pub reads_on : (text rest after : List ℕ) (p : Option ℕ) (old new : List Numbered) → HasRead text rest old
    → piece rest ≡ Some (p, after) → new ≡ old ++ asks p → HasRead text after new
reads_on text rest after p old new so_far e f = record {
  on = λ more h. on more h;
  back = λ all h. back all h;
}
  where
    whole : (more : List Numbered) → old ++ (asks p ++ more) ≡ new ++ more
    whole more = sym (append_assoc old (asks p) more) ∙ ap (λ (xs : List Numbered). xs ++ more) (sym f)

    on : (more : List Numbered) → HasSignature after more → HasSignature text (new ++ more)
    on more (pieces, are, g) = subst (λ (xs : List Numbered). HasSignature text xs) (whole more)
        (so_far.on (asks p ++ more) (p ∷ pieces, (after, e, are), ap (λ (xs : List Numbered). asks p ++ xs) g))

    back : (all : List Numbered) → HasSignature text all
        → (more : List Numbered) × HasSignature after more × (all ≡ new ++ more)
    back all h =
        let x = so_far.back all h in
        let y = behind_first rest after p x.0 e x.1.0 x.1.1 x.1.2 in
        (y.0, y.1, x.2 ∙ ap (λ (xs : List Numbered). old ++ xs) y.2 ∙ whole y.0)

pub read_all : (text : List ℕ) (asked : List Numbered) → HasRead text [] asked → HasSignature text asked
read_all text asked so_far = subst (λ (xs : List Numbered). HasSignature text xs) (append-nil asked)
    (so_far.on [] ([], refl, refl))

no_pieces : (rest : List ℕ) → None ≡ piece rest → (rest ≡ [] → ⊥) → (pieces : List (Option ℕ))
    → ArePieces pieces rest → ⊥
no_pieces rest none some [] e = some e
no_pieces rest none some (p ∷ more) (after, e, others) = absurd (cc (none, e))

pub unreadable : (text rest : List ℕ) (old : List Numbered) → HasRead text rest old → None ≡ piece rest
    → (rest ≡ [] → ⊥) → (asked : List Numbered) → HasSignature text asked → ⊥
unreadable text rest old so_far none some asked h =
    let x = so_far.back asked h in
    no_pieces rest none some x.1.0 x.1.1

one_reading : (ps qs : List (Option ℕ)) (text : List ℕ) → ArePieces ps text → ArePieces qs text → ps ≡ qs
one_reading [] [] text e f = refl
one_reading [] (q ∷ qs) text e (rest, f, others) = absurd (cc (f, ap piece e))
one_reading (p ∷ ps) [] text (rest, e, others) f = absurd (cc (e, ap piece f))
one_reading (p ∷ ps) (q ∷ qs) text (rest, e, others) (then, f, more) =
    let found : Some (p, rest) ≡ Some (q, then) = sym e ∙ f in
    let whole : (p, rest) ≡ (q, then) = cc found in
    let rest_is : rest ≡ then = ap (λ (x : Option ℕ × List ℕ). x.1) whole in
    let ih = one_reading ps qs rest others (subst (λ (t : List ℕ). ArePieces qs t) (sym rest_is) more) in
    ap (λ (x : Option ℕ × List ℕ). x.0 ∷ ps) whole ∙ ap (λ (xs : List (Option ℕ)). q ∷ xs) ih

pub one_list : (text : List ℕ) (asked others : List Numbered) → HasSignature text asked → HasSignature text others
    → asked ≡ others
one_list text asked others (ps, are, e) (qs, also, f) =
    e ∙ ap (λ (xs : List (Option ℕ)). flat_map asks xs) (one_reading ps qs text are also) ∙ sym f

-- ---- empty texts

pub is_nil : (text : List ℕ) (empty : Bool) → empty ≡ (length text == 0) → empty ≡ true → text ≡ []
is_nil [] empty e f = refl
is_nil (b ∷ more) empty e f =
    let none : length (b ∷ more) ≡ 0 = eqb-true (length (b ∷ more)) 0 (sym e ∙ f) in
    absurd (omega (arith, none))

pub not_nil : (text : List ℕ) (empty : Bool) → empty ≡ (length text == 0) → empty ≡ false → text ≡ [] → ⊥
not_nil [] empty e f none = absurd (cc (sym f ∙ e))
not_nil (b ∷ more) empty e f none = absurd (cc none)
