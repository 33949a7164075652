-- A list of tokens that the parser takes is open: an entry can be completed from every stage.
use Rattle.po_text.proofs.Kit.{◌≡◌, ℕ, List, [], ◌∷◌, ◌++◌, Option, Some, None, refl, sym, ap, ◌∙◌, inl, inr}
use Rattle.po_text.proofs.Kit.{append_assoc, arith, ◌⊎◌, flat_map, AllByRecursion, concat, Contains, eq-eqb, Token, Id}
use Rattle.po_text.proofs.Kit.{Str, Number, Open, Close, Text, Derivation, PlainPart, tokens_of, IsLawfulEntry}
use Rattle.po_text.proofs.Kit.{IsOpenList, Stage, Start, ContextWord, ContextText, IdWord, IdText, FormWord, FormText}
use Rattle.po_text.proofs.Kit.{PluralWord, PluralText, IndexOpen, IndexNumber, IndexClose, IndexedWord, IndexedText}
use Rattle.po_text.proofs.Kit.{IsBoundary}
use Rattle.po_text.specs.Stages.{step}
use Rattle.po_text.proofs.Grammar.{run, run-over, run-from}
use Rattle.po_text.proofs.Completes.{derived}

abbrev form_end : List Token
form_end = Text [] ∷ []

abbrev index_end : ℕ → List Token
index_end k = Number k ∷ Close ∷ form_end

abbrev id_end : List Token
id_end = Text [] ∷ Str ∷ form_end

-- tokens that complete the entry
abbrev completion : Stage → List Token
completion ContextWord = Text [] ∷ Id ∷ id_end
completion ContextText = Id ∷ id_end
completion IdWord = id_end
completion IdText = Str ∷ form_end
completion FormWord = form_end
completion PluralWord = Text [] ∷ Str ∷ Open ∷ index_end 0
completion PluralText = Str ∷ Open ∷ index_end 0
completion (IndexOpen k) = Open ∷ index_end k
completion (IndexNumber k) = index_end k
completion (IndexClose k) = Close ∷ form_end
completion (IndexedWord k) = form_end
completion _ = []

abbrev EndsWell : Option Stage → Type 0
EndsWell p = (r : Stage) × IsBoundary r × (p ≡ Some r)

number_taken : (k : ℕ) → step (IndexNumber k) (Number k) ≡ Some (IndexClose k)
unfolding step
number_taken k = rw (eq-eqb k k refl) refl

index_ends : (k : ℕ) → run (Some (IndexNumber k)) (index_end k) ≡ Some (IndexedText k)
unfolding step
index_ends k = run-from (step (IndexNumber k) (Number k)) (Some (IndexClose k)) (Some (IndexedText k))
    (Close ∷ form_end) (number_taken k) refl

completes : (p : Stage) → EndsWell (run (Some p) (completion p))
unfolding step
completes Start = (Start, tt, refl)
completes PluralWord = (IndexedText 0, tt, index_ends 0)
completes PluralText = (IndexedText 0, tt, index_ends 0)
completes (IndexOpen k) = (IndexedText k, tt, index_ends k)
completes (IndexNumber k) = (IndexedText k, tt, index_ends k)
completes (IndexClose k) = (IndexedText k, tt, refl)
completes (IndexedWord k) = (IndexedText k, tt, refl)
completes (IndexedText k) = (IndexedText k, tt, refl)
completes _ = (FormText, tt, refl)

-- two cuts of one list: the first part of one begins that of the other, or extends it
pub two_cuts : {A : Type 0} (xs ys a b : List A) → xs ++ ys ≡ a ++ b → ((c : List A) × (a ≡ xs ++ c))
    ⊎ ((c : List A) × (xs ≡ a ++ c) × (c ++ ys ≡ b))
two_cuts [] ys a b e = inl (a, refl)
two_cuts (x ∷ xs) ys [] b e = inr (x ∷ xs, refl, e)
two_cuts {A} (x ∷ xs) ys (y ∷ a) b e =
    let head : x ≡ y = cc e in
    elim (two_cuts xs ys a b (cc e)) [
      | inl p ↦ inl (p.0, cc (head, p.1))
      | inr p ↦ inr (p.0, cc (head, p.1), p.2)
    ]

sample : Derivation
sample = record { context = None; id = [] ∷ []; part = PlainPart ([] ∷ []) }

abbrev no_four_empty : ¬ Contains (concat ([] ∷ [])) 4
no_four_empty (k, lt, is) = absurd (omega arith)

sample_lawful : IsLawfulEntry sample
unfolding sample
sample_lawful = record { context = tt; id = (λ e. absurd (cc e), no_four_empty); part = λ e. absurd (cc e) }

nothing_open : (xs ys : List Token) → xs ++ ys ≡ [] → IsOpenList xs
nothing_open [] ys e = record {
  whole = [];
  front = [];
  last = sample;
  back = tokens_of sample;
  split = refl;
  each = tt;
  begins = refl;
  lawful = sample_lawful;
}
nothing_open (x ∷ xs) ys e = absurd (cc e)

begins_open : (ds : List Derivation) (xs ys : List Token) → AllByRecursion IsLawfulEntry ds → xs ++ ys
    ≡ flat_map tokens_of ds → IsOpenList xs
begins_open [] xs ys all e = nothing_open xs ys e
begins_open (d ∷ ds) xs ys all e = elim (two_cuts xs ys (tokens_of d) (flat_map tokens_of ds) e) [
  | inl p ↦ record {
    whole = [];
    front = xs;
    last = d;
    back = p.0;
    split = refl;
    each = tt;
    begins = p.1;
    lawful = all.0;
  }
  | inr p ↦
      let o = begins_open ds p.0 ys all.1 p.2 in
      record {
        whole = d ∷ o.whole;
        front = o.front;
        last = o.last;
        back = o.back;
        split = p.1 ∙ ap (λ (ts : List Token). tokens_of d ++ ts) o.split
            ∙ sym (append_assoc (tokens_of d) (flat_map tokens_of o.whole) o.front);
        each = (all.0, o.each);
        begins = o.begins;
        lawful = o.lawful;
      }
]

-- what the parser takes is open
pub taken_open : (xs : List Token) (p : Stage) → run (Some Start) xs ≡ Some p → IsOpenList xs
taken_open xs p e =
    let end = completes p in
    let whole = derived (xs ++ completion p) end.0 (run-over (Some Start) (Some p) (Some end.0) xs (completion p) e
    end.2) end.1 in
    begins_open whole.0 xs (completion p) whole.1 whole.2
