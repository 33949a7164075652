-- What a PO text in any charset whose formats may name macros compiles to, and its MO file (GNU gettext manual,
-- "msgfmt Invocation"; "c-format").

-- GNU msgfmt converts a text in another charset to UTF-8, since its version 0.22.
use Rattle.std.specs.Prelude.{◌≡◌, ℕ, List}
pub use Rattle.po_checks.specs.declared.options.Options.{Options}
use Rattle.any_charset.specs.Recoding.{GivesAny, GivesRecoded, RefusesAnyBy}
use Rattle.any_charset.specs.declared.fault.TextFault.{TextFault}
use Rattle.mo_segments.specs.MessageStrings.{strings_of}
use Rattle.dependent_po.specs.MacroMeaning.{Means, Refuses}
use Rattle.dependent_po.specs.declared.compiled.DependentCompiled.{DependentCompiled}
use Rattle.dependent_files.specs.MessagesFile.{HasFile, HasNoFile, FileFault, Text}
use Rattle.dependent_files.specs.declared.compiler.DependentFile.{DependentFile}

-- ---- a text in any charset

-- a text in another charset, which compiles to this once it is recoded
abbrev pub MeansRecoded : List ℕ → Options → DependentCompiled → Type 0
MeansRecoded text options compiled = GivesRecoded Refuses Means text options compiled

-- the text compiles to this, as it is or recoded
abbrev pub MeansAny : List ℕ → Options → DependentCompiled → Type 0
MeansAny text options compiled = GivesAny Refuses Means text options compiled

-- why a text in any charset is refused
abbrev pub RefusesAny : List ℕ → Options → TextFault → Type 0
RefusesAny text options fault = RefusesAnyBy Refuses text options fault

-- ---- its file

-- this is the file of what was compiled, with its catalogue and its counts
pub record IsFileOf (compiled : DependentCompiled) (made : DependentFile) : Type 0 where
  pub file : HasFile (strings_of compiled.statics.items) compiled.dependents.items made.file.items made.catalogue
  pub stats_are : made.stats ≡ compiled.stats
  pub header_line_is : made.header_line ≡ compiled.header_line
  pub missing_is : made.missing ≡ compiled.missing

-- the text, in any charset, has this file
abbrev pub HasFileAny : List ℕ → Options → DependentFile → Type 0
HasFileAny text options made = (compiled : DependentCompiled) × MeansAny text options compiled × IsFileOf compiled made

-- the text, in any charset, compiles, but has no file for this reason
abbrev pub LacksFile : List ℕ → Options → FileFault → Type 0
LacksFile text options fault = (compiled : DependentCompiled) × MeansAny text options compiled
    × HasNoFile (strings_of compiled.statics.items) compiled.dependents.items fault

-- why a text in any charset has no file: it is refused, or its messages have none
abbrev pub HasNoFileAny : List ℕ → Options → FileFault → Type 0
HasNoFileAny text options (Text fault) = RefusesAny text options fault
HasNoFileAny text options fault = LacksFile text options fault
