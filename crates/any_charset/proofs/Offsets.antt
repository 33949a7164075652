-- A text has one first `charset=`, and so declares one text with `UTF-8` in place of the name.
use Rattle.std.proofs.Common.{◌≡◌, ℕ, List, Some, None, sym, ◌∙◌}
use Rattle.memchr.specs.Find.{FindsNeedle}
use Rattle.memchr.proofs.lemmas.ValueLemmas.{FindsNeedle-value}

pub one_offset : (text word : List ℕ) (i j : ℕ) → FindsNeedle text word 0 (Some i) → FindsNeedle text word 0 (Some j)
    → i ≡ j
one_offset text word i j a b =
    let e = FindsNeedle-value text word (Some i) a ∙ sym (FindsNeedle-value text word (Some j) b) in cc e

pub no_offset : (text word : List ℕ) (j : ℕ) → FindsNeedle text word 0 None → FindsNeedle text word 0 (Some j) → ⊥
no_offset text word j a b =
    let e = FindsNeedle-value text word None a ∙ sym (FindsNeedle-value text word (Some j) b) in absurd (cc e)
