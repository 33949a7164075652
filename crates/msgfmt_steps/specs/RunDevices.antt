-- What the steps of `msgfmt` do to its devices: INPUT is read and FILE is written (GNU gettext manual, "msgfmt
-- Invocation").
use Rattle.std.specs.Prelude.{◌≡◌, ◌⊎◌, ℕ, Bool, true, false, List, Option, codes}
use Rattle.std.specs.Str.{bytes_eq}
use Rattle.std.specs.Io.KnownBytes.{Appends, Consumes}
use Rattle.devices.specs.Devices.{InputSeen, IsFront, OutputSeen, RisesBy, most_reads}
use Rattle.devices.specs.Files.{KeepsLog, Log, Logs, MayLog}

-- ---- the devices

-- what is known of the files: the bytes of each and what was written, if they report them, and the count of failures
pub record FilesSeen : Type 0 where
  pub content : List ℕ → Option (List ℕ)
  pub log : Log
  pub failures : ℕ

-- what is known of a device before a run, and after it
pub record Change (Seen : Type 0) : Type 0 where
  pub before : Seen
  pub after : Seen

-- the files now, by what their type reports of them
abbrev pub files_seen : {F : Type 0} → (F → List ℕ → Option (List ℕ)) → (F → Log) → (F → ℕ) → F → FilesSeen
files_seen content written failures files =
    record { content = content files; log = written files; failures = failures files }

-- a device that came from one state to another, seen so
abbrev pub change : {Device Seen : Type 0} → (Device → Seen) → Device → Device → Change Seen
change seen old new = record { before = seen old; after = seen new }

-- no write to the error output failed
abbrev pub TellsAll : Change ℕ → Type 0
TellsAll failures = failures.after ≡ failures.before

-- no file was written, and nothing to standard output
pub record IsUnwritten (files : Change FilesSeen) (output : Change OutputSeen) : Type 0 where
  pub no_file : KeepsLog files.before.log files.after.log
  pub no_output : output.after ≡ output.before

-- ---- INPUT and FILE: a file of this name, but `-` is standard input and standard output

-- the name of standard input and standard output
abbrev pub is_standard : List ℕ → Bool
is_standard name = bytes_eq name (codes "-")

-- how many bytes of INPUT are read: one more than a text may have
abbrev pub most_read : ℕ
most_read = 67108865

-- the text was read from standard input
pub record ReadsStandard (input : Change InputSeen) (text : List ℕ) : Type 0 where
  pub front : IsFront most_read input.before.left text
  pub consumed : Consumes input.before.left input.after.left text

-- the text was read from the file of this name
pub record ReadsFile (files : FilesSeen) (input : Change InputSeen) (name text : List ℕ) : Type 0 where
  pub front : IsFront most_read (files.content name) text
  pub unread : input.after ≡ input.before

-- the text was read from INPUT, which is standard input (true) or a file
abbrev pub Reads : Bool → FilesSeen → Change InputSeen → List ℕ → List ℕ → Type 0
Reads true files input name text = ReadsStandard input text
Reads false files input name text = ReadsFile files input name text

-- INPUT failed: a read of standard input, or the bound on its reads was reached; or the file, and nothing was read of
-- standard input
abbrev pub FailsToRead : Bool → Change FilesSeen → Change InputSeen → Type 0
FailsToRead true files input =
    RisesBy 1 input.before.failures input.after.failures ⊎ RisesBy most_reads input.before.reads input.after.reads
FailsToRead false files input =
    RisesBy 1 files.before.failures files.after.failures × (input.after ≡ input.before)

-- these bytes were written to standard output, and nothing else
pub record WritesStandard (files : Change FilesSeen) (output : Change OutputSeen) (bytes : List ℕ) : Type 0 where
  pub written : Appends output.before.bytes output.after.bytes bytes
  pub no_file : KeepsLog files.before.log files.after.log

-- these bytes were written to the file of this name, and nothing else
pub record WritesFile (files : Change FilesSeen) (output : Change OutputSeen) (name bytes : List ℕ) : Type 0 where
  pub written : Logs files.before.log files.after.log name bytes
  pub no_output : output.after ≡ output.before

-- these bytes were written to FILE, which is standard output (true) or a file
abbrev pub Writes : Bool → Change FilesSeen → Change OutputSeen → List ℕ → List ℕ → Type 0
Writes true files output name bytes = WritesStandard files output bytes
Writes false files output name bytes = WritesFile files output name bytes

-- a write to standard output failed, and no file was written
pub record FailsOnStandard (files : Change FilesSeen) (output : Change OutputSeen) : Type 0 where
  pub failed : RisesBy 1 output.before.failures output.after.failures
  pub no_file : KeepsLog files.before.log files.after.log

-- the file of this name failed, and no other was written
pub record FailsOnFile (files : Change FilesSeen) (output : Change OutputSeen) (name : List ℕ) : Type 0 where
  pub failed : RisesBy 1 files.before.failures files.after.failures
  pub no_other : MayLog files.before.log files.after.log name
  pub no_output : output.after ≡ output.before

-- FILE failed, which is standard output (true) or a file
abbrev pub FailsToWrite : Bool → Change FilesSeen → Change OutputSeen → List ℕ → Type 0
FailsToWrite true files output name = FailsOnStandard files output
FailsToWrite false files output name = FailsOnFile files output name
