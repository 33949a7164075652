use Rattle.po_text.proofs.Kit.{◌≡◌, ◌<◌, ℕ, true, false, Bool, List, length, get_or, arith, inl, inr, ◌-◌, sym, ap, ◌∙◌}
use Rattle.po_text.proofs.Kit.{eqb-true, prefix_len_passes, IsLawful, is_simple}
use Rattle.std.proofs.Common.{◌&&◌, leb, ltb}
use Rattle.std.proofs.lemmas.Bool.{ltb-true, cases_lt}
use Rattle.std.proofs.lemmas.Str.{IsUtf8-from_ascii}
use Rattle.std.proofs.lemmas.Str.Ascii.{IsAscii-from_reads}
use Rattle.po_text.proofs.LaneLemmas.{chunk_passes, run_bound}
use Rattle.po_text.proofs.plain.are_simple.Goals as goal

both : (a b : Bool) → (a && b) ≡ true → b ≡ true
both true b e = e
both false b e = absurd (cc e)

is_ascii_byte : (b : ℕ) → is_simple b ≡ true → b < 128
is_ascii_byte b e = ltb-true b 128 (both (leb 1 b) (ltb b 128) e)

not_nul : is_simple 0 ≡ true → ⊥
not_nul e = cc e

simple_lawful : (bytes : List ℕ) → ((k : ℕ) → k < length bytes → is_simple (get_or bytes k 0) ≡ true)
    → IsLawful bytes
simple_lawful bytes simple = record {
  no_nul = λ (k, lt, is). not_nul (sym (ap is_simple is) ∙ simple k lt);
  utf8 = IsUtf8-from_ascii bytes (IsAscii-from_reads bytes (length bytes) (omega arith)
      (λ k lt. is_ascii_byte _ (simple k lt)));
}

pub returns-then-bytes-lt-LANES : goal.returns-then-bytes-lt-LANES
returns-then-bytes-lt-LANES c same =
    let all = sym c.simple_bytes.ensures ∙ eqb-true _ _ same in
    simple_lawful c.args.bytes.now (λ k lt. prefix_len_passes is_simple c.args.bytes.now k 0 (omega (arith, lt, all)))

pub vectors-preserved : goal.vectors-preserved
vectors-preserved c k lt =
    let d = c.args.bytes.now in
    let at = c.vectors.at in
    let run = c.simple_lanes.ensures in
    let few = run_bound is_simple d at 16 (omega arith) in
    elim (cases_lt k at) [
      | inl early ↦ c.vectors.invariant k early
      | inr late ↦ chunk_passes is_simple d at 16 (omega (arith, few, run)) k (omega arith) (omega (arith, lt))
    ]

pub returns : goal.returns
returns c same =
    let d = c.args.bytes.now in
    let run = c.simple_lanes-2.ensures in
    let all : c.simple_lanes-2.result ≡ 16 = eqb-true _ _ same in
    let last = length d - 16 in
    simple_lawful d (λ k lt. elim (cases_lt k c.vectors.at) [
      | inl early ↦ c.vectors.invariant k early
      | inr late ↦ chunk_passes is_simple d last 16 (sym run ∙ all) k (omega arith) (omega arith)
    ])
