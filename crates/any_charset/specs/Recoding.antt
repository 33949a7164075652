-- What a PO text in any charset means to the compiler: a catalogue with its counts, or a refusal.

-- GNU msgfmt converts a text in another charset to UTF-8, since its version 0.22.
use Rattle.std.specs.Prelude.{◌≡◌, ◌⊎◌, ℕ, ◌+◌, List, take}
use Rattle.po_text.specs.Spelling.{newlines}
use Rattle.po_checks.specs.Refusal.{out_of_memory}
use Rattle.po_checks.specs.declared.options.Options.{Options}
use Rattle.po_checks.specs.declared.fault.LoadFault.{LoadFault}
use Rattle.po_checks.specs.declared.fault.LoadKind.{LoadKind}
use Rattle.po_checks.specs.declared.fault.LoadKind.TheVariants.{NotUtf8, Charset as UnknownCharset}
use Rattle.catalogue.specs.Meaning.{Means, Refuses}
use Rattle.catalogue.specs.declared.compiler.Compiled.{Compiled}
use Rattle.charsets.specs.declared.kinds.Charset.{Charset}
use Rattle.charsets.specs.Decoding.{IsDecoded, IsFirstWithNone}
use Rattle.any_charset.specs.Declaring.{Declares, DeclaresNone}
use Rattle.any_charset.specs.declared.fault.TextFault.{TextFault}
use Rattle.any_charset.specs.declared.fault.TextFault.TheVariants.{Load, NoCharacter}

-- the refusals that a text in another charset can have
abbrev pub IsForCharset : LoadKind → Type 0
IsForCharset kind = (kind ≡ NotUtf8) ⊎ (kind ≡ UnknownCharset)

-- the text declares a charset, and recoded is its decoding, with UTF-8 as the header's charset
abbrev pub IsRecoded : List ℕ → List ℕ → Type 0
IsRecoded text recoded =
    (charset : Charset) × (renamed : List ℕ) × Declares text charset renamed × IsDecoded charset renamed recoded

-- the charset that the text declares has no character for a byte; the line is that of the first such byte
pub record LacksCharacter (text : List ℕ) (line : ℕ) : Type 0 where
  pub charset : Charset
  pub renamed : List ℕ
  pub declares : Declares text charset renamed
  pub at : ℕ
  pub first : IsFirstWithNone charset renamed at
  pub line_is : line ≡ newlines (take at renamed) + 1

-- the text can't be decoded from the charset that it declares, or memory ran out
abbrev pub CannotRecode : List ℕ → TextFault → Type 0
CannotRecode text (Load fault) = fault ≡ out_of_memory
CannotRecode text (NoCharacter line) = LacksCharacter text line

-- ---- what is known of texts in UTF-8, said of texts in any charset

-- `Refuses text options kind line` says that the text is refused as UTF-8
module _ (Refuses : List ℕ → Options → LoadKind → ℕ → Type 0) where
  -- as UTF-8 the text is refused for its charset
  abbrev pub IsForeignBy : List ℕ → Options → Type 0
  IsForeignBy text options = (kind : LoadKind) × (line : ℕ) × Refuses text options kind line × IsForCharset kind

  -- the text is refused as it is, and declares no other charset if that is why
  pub record RefusesPlain (text : List ℕ) (options : Options) (fault : LoadFault) : Type 0 where
    pub refuses : Refuses text options fault.kind fault.line
    pub no_other : IsForCharset fault.kind → DeclaresNone text

  -- the text is in another charset, and is refused once it is recoded
  pub record RefusesRecoded (text : List ℕ) (options : Options) (fault : LoadFault) : Type 0 where
    pub foreign : IsForeignBy text options
    pub recoded : List ℕ
    pub recodes : IsRecoded text recoded
    pub refuses : Refuses recoded options fault.kind fault.line

  -- the text is in another charset, which has no character for a byte; the line is that of the first such byte
  pub record HasNoCharacter (text : List ℕ) (options : Options) (line : ℕ) : Type 0 where
    pub foreign : IsForeignBy text options
    pub lacks : LacksCharacter text line

  -- why a text in any charset is refused
  abbrev pub RefusesAnyBy : List ℕ → Options → TextFault → Type 0
  RefusesAnyBy text options (Load fault) =
      (fault ≡ out_of_memory) ⊎ RefusesPlain text options fault ⊎ RefusesRecoded text options fault
  RefusesAnyBy text options (NoCharacter line) = HasNoCharacter text options line

  -- `Gives text options value` says that the text gives this as UTF-8
  module _ {V : Type 0} (Gives : List ℕ → Options → V → Type 0) where
    -- a text in another charset, which gives this once it is recoded
    pub record GivesRecoded (text : List ℕ) (options : Options) (value : V) : Type 0 where
      pub foreign : IsForeignBy text options
      pub recoded : List ℕ
      pub recodes : IsRecoded text recoded
      pub gives : Gives recoded options value

    -- the text gives this, as it is or recoded
    abbrev pub GivesAny : List ℕ → Options → V → Type 0
    GivesAny text options value = Gives text options value ⊎ GivesRecoded text options value

-- ---- catalogues

-- a text in another charset, which compiles to this once it is recoded
abbrev pub MeansRecoded : List ℕ → Options → Compiled → Type 0
MeansRecoded text options compiled = GivesRecoded Refuses Means text options compiled

-- the text compiles to this, as it is or recoded
abbrev pub MeansAny : List ℕ → Options → Compiled → Type 0
MeansAny text options compiled = GivesAny Refuses Means text options compiled

-- why a text in any charset is refused
abbrev pub RefusesAny : List ℕ → Options → TextFault → Type 0
RefusesAny text options fault = RefusesAnyBy Refuses text options fault
