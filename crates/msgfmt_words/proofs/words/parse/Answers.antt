use Rattle.std.proofs.Common.{◌∙◌, ap, sym, map, string_bytes, subst}
use Rattle.clap.specs.Words.{fault_of, is_simple, is_simple_and_free, matches_of, kind_of}
use Rattle.clap.specs.Kinds.{HasKind}
use Rattle.msgfmt_words.specs.Words.{asked_by, msgfmt}
use Rattle.msgfmt_words.proofs.WordLemmas.{explained}
use Rattle.msgfmt_words.proofs.words.parse.Goals as goal

pub returns-in-Ok-try_get_matches_from-clause-taken :
    goal.returns-in-Ok-try_get_matches_from-clause-taken
returns-in-Ok-try_get_matches_from-clause-taken c =
    let is = c.in-Ok.ensures in
    let ws = map string_bytes c.args.words.now in
    sym (ap (λ a. fault_of a ws) is) ∙ c.in-Ok-try_get_matches_from.ensures.kinds (ap is_simple_and_free is)

pub returns-in-Ok-try_get_matches_from-clause-asked :
    goal.returns-in-Ok-try_get_matches_from-clause-asked
returns-in-Ok-try_get_matches_from-clause-asked c =
    let is = c.in-Ok.ensures in
    let ws = map string_bytes c.args.words.now in
    c.request_of.ensures ∙ ap asked_by ((c.in-Ok-try_get_matches_from.ensures.matches (ap is_simple is)).0
    ∙ ap (λ a. matches_of a ws) is)

pub returns-in-Err-clause-refused :
    goal.returns-in-Err-clause-refused
returns-in-Err-clause-refused c =
    let is = c.in-Ok.ensures in
    let ws = map string_bytes c.args.words.now in
    let error = c.in-Err.error in
    let why : HasKind (fault_of msgfmt ws) error = subst (λ a. HasKind (fault_of a ws) error) is
    (c.in-Err.ensures.kinds (ap is_simple_and_free is)) in
    explained ws (kind_of error) _ why c.fault_of.ensures
