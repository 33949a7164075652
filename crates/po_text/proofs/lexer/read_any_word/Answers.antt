use Rattle.po_text.proofs.Kit.{◌≡◌, ℕ, ◌++◌, List, [], take, drop, refl, sym, arith, ap, ◌∙◌, take_while, prefix_len}
use Rattle.po_text.proofs.Kit.{take-append-drop, prefix_len-le-length, is_word_byte, word_token, token_view}
use Rattle.po_text.proofs.lexer.read_any_word.Goals as goal

pub split_at-requires : goal.split_at-requires
split_at-requires c = omega (arith, c.word_len.ensures, prefix_len-le-length is_word_byte c.args.text.now)

is_run : (text front : List ℕ) (n : ℕ) → front ≡ take n text → n ≡ prefix_len is_word_byte text → front
    ≡ take_while is_word_byte text
is_run text front n e f = e ∙ ap (λ (k : ℕ). take k text) f

cuts : (text back : List ℕ) (n : ℕ) → back ≡ drop n text → n ≡ prefix_len is_word_byte text → text
    ≡ take_while is_word_byte text ++ back
cuts text back n e f = sym (take-append-drop n text) ∙ rw (e, f) refl

pub returns-in-Some-clause-ok : goal.returns-in-Some-clause-ok
returns-in-Some-clause-ok c =
    let run = is_run c.args.text.now c.split_at.result.0.now c.word_len.result c.split_at.ensures.front
    c.word_len.ensures in
    let is = λ (bytes : List ℕ). c.in-Some.ensures bytes ∙ ap word_token run in (
      token_view c.in-Some.token [],
      (
        cuts c.args.text.now c.split_at.result.1.now c.word_len.result c.split_at.ensures.back c.word_len.ensures,
        refl,
        sym (is []),
      ),
      λ bytes. let e = is bytes in let f = is [] in cc (e, f),
    )

pub returns-in-None-clause-err : goal.returns-in-None-clause-err
returns-in-None-clause-err c = (
  refl,
  ap word_token (sym (is_run c.args.text.now c.split_at.result.0.now c.word_len.result c.split_at.ensures.front
      c.word_len.ensures)) ∙ sym (c.in-None.ensures []),
)
