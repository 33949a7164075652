-- From the answers of `clap` to what the arguments ask for.
use Rattle.std.proofs.Common.{◌≡◌, ◌∙◌, ◌⊎◌, ap, sym, subst, inl, inr, true≢false, Bool, true, false, ℕ, List, [], ◌∷◌}
use Rattle.std.proofs.Common.{Option, Some, None, codes, option_map, refl, unwrap_or}
use Rattle.std.specs.Borrow.{Bor}
use Rattle.clap.proofs.WalkLemmas.{first_value-rows}
use Rattle.clap.specs.Words.{first_value, rows_of}
use Rattle.clap.specs.Walk.{nothing_held}
use Rattle.clap.specs.Simple.{argument_words, built}
use Rattle.clap.specs.Kinds.{IsAmong}
use Rattle.clap.specs.declared.parser.matches.Found.{Found}
use Rattle.clap.specs.declared.error.kind.ErrorKind.{ErrorKind}
use Rattle.clap.specs.declared.error.kind.ErrorKind.TheVariants as kind
use Rattle.msgfmt_words.specs.Words.{Asked, asked_by, is_true, msgfmt, word_faults}
use Rattle.msgfmt_words.proofs.OneFault.{One, among_one, built_one}
use Rattle.msgfmt_words.specs.Requests.{AnswersKind, Explains}
use Rattle.msgfmt_words.specs.declared.words.WordsFault.{WordsFault}
use Rattle.msgfmt_words.specs.declared.words.WordsFault.TheVariants as fault

-- what the values that were found ask for
pub asked_built : (f : Found) (checked use_fuzzy statistics : Bool) (input : Option (List ℕ)) (output : List ℕ)
    → checked ≡ is_true (first_value f (codes "check")) → use_fuzzy ≡ is_true (first_value f (codes "use-fuzzy"))
    → statistics ≡ is_true (first_value f (codes "statistics")) → input ≡ first_value f (codes "INPUT")
    → output ≡ unwrap_or (first_value f (codes "output-file")) (codes "messages.mo")
    → ◌≡◌ {A = Asked} (record {
      options = record { checked = checked; use_fuzzy = use_fuzzy };
      statistics = statistics;
      input = input;
      output = output;
    })
    (asked_by (rows_of f))
asked_built f checked use_fuzzy statistics input output checked_is fuzzy_is statistics_is input_is output_is =
    let check = checked_is ∙ ap is_true (first_value-rows f (codes "check")) in
    let fuzzy = fuzzy_is ∙ ap is_true (first_value-rows f (codes "use-fuzzy")) in
    let counts = statistics_is ∙ ap is_true (first_value-rows f (codes "statistics")) in
    let i = input_is ∙ first_value-rows f (codes "INPUT") in
    let o = output_is ∙ ap (λ t. unwrap_or t (codes "messages.mo")) (first_value-rows f (codes "output-file")) in
    λ k. record {
      options = record { checked = check k; use_fuzzy = fuzzy k };
      statistics = counts k;
      input = i k;
      output = o k;
    }

-- the text for a value that is missing
unwrapped : (found : Option (Bor (List ℕ))) (other : Bor (List ℕ)) → (unwrap_or found other).now
    ≡ unwrap_or (option_map (λ s. s.now) found) other.now
unwrapped None other = refl
unwrapped (Some text) other = refl

pub named_or : (found : Option (Bor (List ℕ))) (name : Bor (List ℕ)) (other : Bor (List ℕ)) (value : Option (List ℕ))
    → name ≡ unwrap_or found other → option_map (λ s. s.now) found ≡ value → name.now ≡ unwrap_or value other.now
named_or found name other value is found_is =
    ap (λ (s : _). s.now) is ∙ unwrapped found other ∙ ap (λ t. unwrap_or t other.now) found_is

abbrev is_help : ErrorKind → Bool
is_help kind.DisplayHelp = true
is_help _ = false

-- the arguments have one fault at most
pub one_fault : (words : List (List ℕ)) → One (word_faults words)
one_fault words = built_one (built msgfmt).top refl nothing_held (argument_words msgfmt words)

-- an answer to an error of `clap` explains the arguments
pub explained : (words : List (List ℕ)) (k : ErrorKind) (r : WordsFault) → (k ≡ kind.OutOfMemory)
    ⊎ IsAmong k (word_faults words)
    → AnswersKind k r → Explains words r
explained words k (fault.Help text) (inl memory) is = absurd (true≢false (ap is_help (sym is ∙ memory)))
explained words k (fault.Help text) (inr among) is = subst (λ x. word_faults words ≡ x ∷ []) is
    (among_one k (word_faults words) (one_fault words) among)
explained words k fault.Faulty (inl memory) is = absurd (is.1 memory)
explained words k fault.Faulty (inr among) is = (k, among_one k (word_faults words) (one_fault words) among, is.0)
explained words k fault.Memory why is = tt
