use Rattle.clap.specs.Words.{found_of}
use Rattle.msgfmt_words.proofs.WordLemmas.{asked_built}
use Rattle.msgfmt_words.proofs.words.request_of.Goals as goal

pub returns : goal.returns
returns c = asked_built (found_of c.args.matches.now) _ _ _ _ _ c.options_of.ensures.checked
    c.options_of.ensures.use_fuzzy c.is_on.ensures c.get_str.ensures c.output_of.ensures
