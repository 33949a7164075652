-- What the arguments of a command line ask for, by the definitions of the crate `clap` (GNU gettext manual, "msgfmt
-- Invocation").
use Rattle.std.specs.Prelude.{◌≡◌, ◌≢◌, ℕ, Bool, false, List, [], ◌∷◌, Option, Some, codes, unwrap_or}
use Rattle.std.specs.Option.{option_map_or}
use Rattle.std.specs.Str.{bytes_eq}
use Rattle.clap.specs.Words.{App, Row, Rule, first_of, matches_of, new_app, new_rule, with_rule}
use Rattle.clap.specs.Faults.{fault_of}
use Rattle.clap.specs.Kinds.{Kinds}
use Rattle.clap.specs.declared.builder.ArgAction.TheVariants.{Set, SetTrue}
use Rattle.clap.specs.declared.error.kind.ErrorKind.{ErrorKind}
use Rattle.clap.specs.declared.error.kind.ErrorKind.TheVariants.{DisplayHelp}
use Rattle.po_checks.specs.declared.options.Options.{Options}

-- ---- the command line of `msgfmt` (GNU gettext manual, "msgfmt Invocation"); -h and --help are clap's own

-- a flag by its long name, which is its id
abbrev pub flag_rule : List ℕ → Rule
flag_rule id = record (new_rule id) { long = Some id; action = Some SetTrue }

-- a flag by its long name and a letter
abbrev pub letter_flag_rule : List ℕ → ℕ → Rule
letter_flag_rule id letter = record (new_rule id) { short = Some letter; long = Some id; action = Some SetTrue }

-- -o FILE, --output-file=FILE
abbrev pub output_rule : Rule
output_rule = record (new_rule (codes "output-file")) {
  short = Some 111;
  long = Some (codes "output-file");
  action = Some Set;
  value_names = 1;
}

-- INPUT
abbrev pub input_rule : Rule
input_rule = record (new_rule (codes "INPUT")) { action = Some Set }

-- -c, --check; -f, --use-fuzzy; --statistics
abbrev pub msgfmt_flags : App
msgfmt_flags = with_rule (with_rule (with_rule (new_app (codes "msgfmt"))
    (letter_flag_rule (codes "check") 99)) (letter_flag_rule (codes "use-fuzzy") 102)) (flag_rule (codes "statistics"))

-- and -v, --verbose; --no-hash, which change nothing; FILE and INPUT
abbrev pub msgfmt : App
msgfmt = with_rule (with_rule (with_rule (with_rule msgfmt_flags
    (letter_flag_rule (codes "verbose") 118)) (flag_rule (codes "no-hash"))) output_rule) input_rule

-- ---- what is asked for

-- the options, whether the statistics are to be printed, INPUT where it is named, and FILE
pub record Asked : Type 0 where
  pub options : Options
  pub statistics : Bool
  pub input : Option (List ℕ)
  pub output : List ℕ

-- clap gives a flag the text "true" if it is among the arguments
abbrev pub is_true : Option (List ℕ) → Bool
is_true value = option_map_or (λ text. bytes_eq text (codes "true")) value false

-- the flag of this id is among the arguments
abbrev pub is_on : List ℕ → List Row → Bool
is_on id rows = is_true (first_of id rows)

-- what the values that clap finds ask for
abbrev pub asked_by : List Row → Asked
asked_by rows = record {
  options = record { checked = is_on (codes "check") rows; use_fuzzy = is_on (codes "use-fuzzy") rows };
  statistics = is_on (codes "statistics") rows;
  input = first_of (codes "INPUT") rows;
  output = unwrap_or (first_of (codes "output-file") rows) (codes "messages.mo");
}

-- what the arguments ask for
abbrev pub request_in : List (List ℕ) → Asked
request_in words = asked_by (matches_of msgfmt words)

-- ---- arguments that are refused

-- the fault of the arguments, of this kind, or none if they are accepted
abbrev pub word_faults : List (List ℕ) → Kinds
word_faults words = fault_of msgfmt words

-- the arguments are those of `msgfmt`
abbrev pub AreTaken : List (List ℕ) → Type 0
AreTaken words = word_faults words ≡ []

-- the arguments ask for the help text
abbrev pub AskForHelp : List (List ℕ) → Type 0
AskForHelp words = word_faults words ≡ DisplayHelp ∷ []

-- the arguments have another fault
abbrev pub AreFaulty : List (List ℕ) → Type 0
AreFaulty words = (k : ErrorKind) × (word_faults words ≡ k ∷ []) × (k ≢ DisplayHelp)
