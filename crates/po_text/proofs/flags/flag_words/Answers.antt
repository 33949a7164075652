use Rattle.po_text.proofs.Kit.{sym, ◌∙◌, arith, prefix_len-le-length}
use Rattle.po_text.specs.Lexing.{is_no_separator}
use Rattle.po_text.proofs.FlagLemmas.{words_step, words_end}
use Rattle.po_text.proofs.flags.flag_words.Goals as goal

pub split_at-requires : goal.split_at-requires
split_at-requires c = omega (arith, c.flag_len.ensures, prefix_len-le-length is_no_separator c.words.rest.now)

pub returns-in_default : goal.returns-in_default
returns-in_default c = sym (c.words.invariant ∙ words_end c.words.rest.now c.split_at.result.0.now
    c.split_at.result.1.now c.flag_len.result c.words.flags _ c.flag_len.ensures c.split_at.ensures.front
    c.split_at.ensures.back c.in_default.ensures c.flag_word.ensures)

pub words-preserved : goal.words-preserved
words-preserved c = c.words.invariant ∙ words_step c.words.rest.now c.split_at.result.0.now c.split_at.result.1.now _
    c.flag_len.result _ c.words.flags _ c.flag_len.ensures c.split_at.ensures.front c.split_at.ensures.back
    c.in-Some.ensures c.flag_word.ensures
