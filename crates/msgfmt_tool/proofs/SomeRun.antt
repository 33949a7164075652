-- Arguments have an outcome over all files and inputs: that they have none leads to ⊥.
use Rattle.std.proofs.Common.{◌≡◌, ◌∙◌, ap, refl, inl, inr, ℕ, Bool, true, false, List, [], ◌∷◌, ◌++◌, Option}
use Rattle.std.proofs.Common.{Some, None, sym, take, drop}
use Rattle.std.proofs.lemmas.List.{take-append-drop}
use Rattle.std.specs.Io.KnownBytes.{Appends, Consumes, append_known}
use Rattle.devices.specs.Files.{Log, Logs}
use Rattle.clap.specs.Kinds.{Kinds}
use Rattle.clap.specs.declared.error.kind.ErrorKind.{ErrorKind}
use Rattle.catalogue.specs.MoFile.{spelling}
use Rattle.catalogue.proofs.SomeMeaning.{some_meaning}
use Rattle.msgfmt_words.specs.Words.{AreTaken, AskForHelp, request_in, word_faults}
use Rattle.devices.specs.Devices.{IsFront, InputSeen, OutputSeen}
use Rattle.msgfmt_steps.specs.RunDevices.{FilesSeen, Reads, Writes, is_standard, most_read}
use Rattle.msgfmt_tool.specs.Runs.{Run}
use Rattle.msgfmt_tool.specs.Laws.{SettledRun}
use Rattle.msgfmt_steps.specs.declared.outcome.Cause.TheVariants.{Words, NoInput, Refused}
use Rattle.msgfmt_steps.specs.declared.outcome.Status.TheVariants.{Done, Failed}
use Rattle.msgfmt_words.proofs.OneFault.{One}
use Rattle.msgfmt_words.proofs.WordLemmas.{one_fault}
use Rattle.msgfmt_steps.proofs.Telling.{between}
use Rattle.msgfmt_tool.proofs.RunLemmas.{kept_same, run_over}

-- ---- what is read and written where nothing fails

abbrev front : Option (List ℕ) → List ℕ
front None = []
front (Some bytes) = take most_read bytes

front_is : (known : Option (List ℕ)) → IsFront most_read known (front known)
front_is None = tt
front_is (Some bytes) = refl

abbrev rest : Option (List ℕ) → Option (List ℕ)
rest None = None
rest (Some bytes) = Some (drop most_read bytes)

rest_is : (known : Option (List ℕ)) → Consumes known (rest known) (front known)
rest_is None = tt
rest_is (Some bytes) = sym (take-append-drop most_read bytes)

appended : (known : Option (List ℕ)) (bytes : List ℕ) → Appends known (append_known known bytes) bytes
appended None bytes = tt
appended (Some before) bytes = refl

abbrev logged : Log → List ℕ → List ℕ → Log
logged None name bytes = None
logged (Some files) name bytes = Some (files ++ (name, bytes) ∷ [])

logged_is : (log : Log) (name bytes : List ℕ) → Logs log (logged log name bytes) name bytes
logged_is None name bytes = tt
logged_is (Some files) name bytes = refl

read : (standard : Bool) (files : FilesSeen) (input : InputSeen) (name : List ℕ)
    → (text : List ℕ) × (after : InputSeen) × Reads standard files (between input after) name text
read true files input name = (
  front input.left,
  record input { left = rest input.left },
  record { front = front_is input.left; consumed = rest_is input.left },
)
read false files input name = (
  front (files.content name),
  input,
  record { front = front_is (files.content name); unread = refl },
)

written : (standard : Bool) (files : FilesSeen) (output : OutputSeen) (name bytes : List ℕ)
    → (files_after : FilesSeen) × (after : OutputSeen)
    × Writes standard (between files files_after) (between output after) name bytes
written true files output name bytes = (
  files,
  record output { bytes = append_known output.bytes bytes },
  record { written = appended output.bytes bytes; no_file = kept_same files.log },
)
written false files output name bytes = (
  record files { log = logged files.log name bytes },
  output,
  record { written = logged_is files.log name bytes; no_output = refl },
)

-- ---- the cases of the arguments

module _ (words : List (List ℕ)) (files : FilesSeen) (input : InputSeen) (output : OutputSeen)
    (none : SettledRun words files input output → ⊥) where
  -- a run that does nothing
  abbrev idle : Run
  idle = run_over (between files files) (between input input) (between output output) (between 0 0)

  abbrev reading : InputSeen → Run
  reading after = run_over (between files files) (between input after) (between output output) (between 0 0)

  faulty : (k : ErrorKind) → word_faults words ≡ k ∷ [] → ⊥
  faulty k is = none (record {
    run = idle;
    files_are = refl;
    input_is = refl;
    output_is = refl;
    status = Failed Words;
    settled = tt;
    runs = ((k, is, λ help. helped (is ∙ ap (λ x. x ∷ []) help)), record { files = refl; input = refl; output = refl });
  })
    where
      helped : AskForHelp words → ⊥
      helped asks = none (record {
        run = run_over (between files files) (between input input)
            (between output (record output { bytes = append_known output.bytes [] })) (between 0 0);
        files_are = refl;
        input_is = refl;
        output_is = refl;
        status = Done;
        settled = tt;
        runs = (
          refl,
          inl (record {
            asks = asks;
            unread = refl;
            no_file = refl;
            text = [];
            written = appended output.bytes [];
          }),
        );
      })

  module _ (taken : AreTaken words) where
    named : (name : List ℕ) → (request_in words).input ≡ Some name → ⊥
    named name is =
        let (text, after, reads) = read (is_standard name) files input name in
        some_meaning text (request_in words).options
        (λ compiled means.
        let (files_after, output_after, writes) = written (is_standard (request_in words).output) files output
        (request_in words).output (spelling compiled.catalogue) in
        none (record {
          run = run_over (between files files_after) (between input after) (between output output_after) (between 0 0);
          files_are = refl;
          input_is = refl;
          output_is = refl;
          status = Done;
          settled = tt;
          runs = (
            refl,
            inr (
              taken,
              record {
                compiled = compiled;
                compiles = record { name = name; input = is; text = text; read = reads; means = means };
                written = writes;
              },
            ),
          );
        }))
        (λ (kind, line, refuses). none (record {
          run = reading after;
          files_are = refl;
          input_is = refl;
          output_is = refl;
          status = Failed (Refused (record { kind = kind; line = line }));
          settled = tt;
          runs = (
            taken,
            record {
              name = name;
              input = is;
              text = text;
              read = reads;
              refuses = refuses;
              unwritten = record { no_file = kept_same files.log; no_output = refl };
            },
          );
        }))

    worked : (name : Option (List ℕ)) → (request_in words).input ≡ name → ⊥
    worked None is = none (record {
      run = idle;
      files_are = refl;
      input_is = refl;
      output_is = refl;
      status = Failed NoInput;
      settled = tt;
      runs = (taken, (is, record { files = refl; input = refl; output = refl }));
    })
    worked (Some name) is = named name is

  answered : (faults : Kinds) → word_faults words ≡ faults → One faults → ⊥
  answered [] is one = worked is (request_in words).input refl
  answered (k ∷ []) is one = faulty k is
  answered (k ∷ l ∷ faults) is one = absurd one.one

pub some_run : (words : List (List ℕ)) (files : FilesSeen) (input : InputSeen) (output : OutputSeen)
    → (SettledRun words files input output → ⊥) → ⊥
some_run words files input output none = answered words files input output none (word_faults words) refl
    (one_fault words)
