-- The flag `I` is behind one of the next `%`.
use Rattle.std.proofs.Common.{◌≡◌, ℕ, ◌+◌, ◌<◌, true, false, List, [], ◌∷◌, ◌++◌, length, refl, ap, ◌∙◌, arith, inl}
use Rattle.std.proofs.Common.{inr}
use Rattle.std.specs.Prelude.{◌||◌, ◌==◌}
use Rattle.std.specs.List.{list_all}
use Rattle.std.proofs.lemmas.Bool.{and_parts, cases_Bool}
use Rattle.std.proofs.lemmas.List.{length-append}
use Rattle.format_arguments.specs.Text.{is_plain, SkipsPlain}
use Rattle.c_signature.specs.Pieces.{percent}
use Rattle.dependent_files.specs.FlagScanning.{leads_to_flag, may_have_flag}

-- a byte that is no `%` leads to nothing
passed : (b : ℕ) (more : List ℕ) → is_plain percent b ≡ true → may_have_flag (b ∷ more) ≡ may_have_flag more
passed b more plain = elim (cases_Bool (b == percent)) [
  | inl e ↦ absurd (cc (rw e at plain))
  | inr e ↦ rw e refl
]

all_passed : (plain rest : List ℕ) → list_all (is_plain percent) plain ≡ true
    → may_have_flag (plain ++ rest) ≡ may_have_flag rest
all_passed [] rest h = refl
all_passed (b ∷ plain) rest h =
    let parts = and_parts (is_plain percent b) (list_all (is_plain percent) plain) h in
    passed b (plain ++ rest) parts.0 ∙ all_passed plain rest parts.1

pub next : (text behind : List ℕ) → SkipsPlain percent text (percent ∷ behind)
    → may_have_flag text ≡ (leads_to_flag behind || may_have_flag behind)
next text behind s = ap may_have_flag s.text_is ∙ all_passed s.plain (percent ∷ behind) s.no_mark

pub none : (text : List ℕ) → SkipsPlain percent text [] → may_have_flag text ≡ false
none text s = ap may_have_flag s.text_is ∙ all_passed s.plain [] s.no_mark

pub shorter : (text behind : List ℕ) → SkipsPlain percent text (percent ∷ behind) → length behind < length text
shorter text behind s =
    let whole : length text ≡ length s.plain + length (percent ∷ behind) =
    ap length s.text_is ∙ length-append s.plain (percent ∷ behind) in
    omega (arith, whole)
