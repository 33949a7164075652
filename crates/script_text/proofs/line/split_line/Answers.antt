use Rattle.std.proofs.Common.{◌≡◌, ◌≢◌, ℕ, List, [], Bor, MatchOption, Option, Some, None, length, refl, sym, ap}
use Rattle.std.specs.Option.{unwrap_or}
use Rattle.std.specs.List.{position_or_len}
use Rattle.std.specs.Str.{IsUtf8}
use Rattle.std.proofs.lemmas.Bool.{eqb-false}
use Rattle.bstr.specs.Find.{is_byte}
use Rattle.byte_text.specs.Cut.{IsCut}
use Rattle.script_text.specs.Scanning.{IsFirstLine}
use Rattle.script_text.proofs.Cutting.{first_line, last_line}
use Rattle.script_text.proofs.line.split_line.Goals as goal

line_of : {text : List ℕ} (r : Option (Bor (List ℕ) × Bor (List ℕ))) (all : Bor (List ℕ) × Bor (List ℕ)) → text ≢ []
    → IsUtf8 text → all.0.now ≡ text → all.1.now ≡ [] → MatchOption r (position_or_len (is_byte 10) text ≡ length text)
    (λ x. IsCut 10 text x.0.now x.1.now) → IsFirstLine text (unwrap_or r all).0.now (unwrap_or r all).1.now
line_of {text} None all some utf8 e f none = rw (e, f) (last_line text some none)
line_of (Some x) all some utf8 e f cut = first_line utf8 cut.within cut.front_is cut.behind_is

pub returns : goal.returns
returns c =
    let some : c.args.text.now ≢ [] = λ e. eqb-false (length c.args.text.now) 0 (sym c.if-is_empty.ensures)
    (ap length e) in
    rw c.unwrap_or.ensures (line_of c.split_at_byte.result _ some c.utf8.text refl refl c.split_at_byte.ensures.cases)
