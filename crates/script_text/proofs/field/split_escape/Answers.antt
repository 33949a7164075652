use Rattle.std.proofs.Common.{◌≢◌, ◌∙◌, ◌<◌, ◌++◌, ◌∷◌, ℕ, List, ap, sym, arith}
use lib.Utf8.{encode}
use Rattle.std.proofs.lemmas.Str.{encode_ascii}
use Rattle.script_text.proofs.Escapes.{no_escape}
use Rattle.script_text.proofs.field.split_escape.Goals as goal

begins_not : (c : ℕ) (text : List ℕ) → c < 128 → ((rest : List ℕ) → text ≢ encode c ++ rest) → (rest : List ℕ)
    → text ≢ c ∷ rest
begins_not c text small none rest e = none rest (e ∙ ap (λ zs. zs ++ rest) (sym (encode_ascii c small)))

pub returns-in_err-rest : goal.returns-in_err-rest
returns-in_err-rest c =
    let text = c.args.text.now in
    let no_n = begins_not 110 text (omega arith) c.in_default.ensures.cases in
    let no_t = begins_not 116 text (omega arith) c.in_default-strip_prefix.ensures.cases in
    let no_b = begins_not 92 text (omega arith) c.in_err-rest.ensures.cases in
    rw c.from_residual.ensures (no_escape text no_n no_t no_b)
