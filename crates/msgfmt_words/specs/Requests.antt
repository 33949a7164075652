-- What parsing the arguments returns (GNU gettext manual, "msgfmt Invocation").
use Rattle.std.specs.Prelude.{◌≡◌, ◌≢◌, ⊤, ℕ, List, option_map}
use Rattle.clap.specs.declared.error.kind.ErrorKind.{ErrorKind}
use Rattle.clap.specs.declared.error.kind.ErrorKind.TheVariants as kind
use Rattle.msgfmt_words.specs.Words.{Asked, AreFaulty, AskForHelp}
use Rattle.msgfmt_words.specs.declared.words.Request.{Request}
use Rattle.msgfmt_words.specs.declared.words.WordsFault.{WordsFault}
use Rattle.msgfmt_words.specs.declared.words.WordsFault.TheVariants.{Help, Faulty, Memory}

-- what a request asks for
abbrev pub asked_in : Request → Asked
asked_in r = record {
  options = r.options;
  statistics = r.statistics;
  input = option_map (λ s. s.now) r.input;
  output = r.output.now;
}

-- why there is no request
abbrev pub Explains : List (List ℕ) → WordsFault → Type 0
Explains words (Help text) = AskForHelp words
Explains words Faulty = AreFaulty words
Explains words Memory = ⊤

-- how an error of `clap` is answered
abbrev pub AnswersKind : ErrorKind → WordsFault → Type 0
AnswersKind k (Help text) = k ≡ kind.DisplayHelp
AnswersKind k Faulty = (k ≢ kind.DisplayHelp) × (k ≢ kind.OutOfMemory)
AnswersKind k Memory = ⊤
