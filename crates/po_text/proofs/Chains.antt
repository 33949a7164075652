-- Chains of steps, and of units.
use Rattle.po_text.proofs.Kit.{List, [], ◌∷◌, ◌++◌, sym, subst, Chain}

pub Chain-append : {A S : Type 0} (Step : A → S → S → Type 0) (xs ys : List A) (s m t : S) → Chain Step xs s m
    → Chain Step ys m t → Chain Step (xs ++ ys) s t
Chain-append Step [] ys s m t e more = subst (λ (x : _). Chain Step ys x t) (sym e) more
Chain-append Step (x ∷ xs) ys s m t (n, step, rest) more = (n, step, Chain-append Step xs ys n m t rest more)
