use Rattle.std.proofs.Common.{refl, sym, ◌∙◌}
use Rattle.std.proofs.lemmas.Bool.{false≢true}
use Rattle.c_signature.proofs.PairLemmas.{same_append}
use Rattle.c_signature.proofs.pairs.same_directive.Goals as goal
use Rattle.c_signature.proofs.pairs.same_directive.Goals.{then-same_amount, else-same_amount}

pub returns-then-same_amount-2 : goal.returns-then-same_amount-2
returns-then-same_amount-2 c = λ e. elim c.if-same_amount.branch [
  | then-same_amount w ↦
      let precision = w.same_amount-then-same_amount.ensures (sym w.value-is ∙ c.if-same_amount-2.true) in
      rw (c.in-None-None.is-0, c.in-None-None.is-1) (same_append _ _ _ _
      (same_append _ _ _ _ (w.if-same_amount.ensures refl) precision) (c.same_argument.ensures e))
  | else-same_amount w ↦ absurd (false≢true (sym w.if-same_amount.false ∙ sym w.value-is ∙ c.if-same_amount-2.true))
]
