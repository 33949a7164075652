-- What a script loads.
use Rattle.std.specs.Prelude.{ℕ, List}
use Rattle.catalogue.specs.declared.Options.{Options}

-- the source of a load: a PO text with its options, or an MO file
pub data SourceValue : Type 0 where
  Po : (text : List ℕ) (options : Options) → SourceValue
  Mo : (bytes : List ℕ) → SourceValue

-- a source for a domain and a locale
pub record JobValue : Type 0 where
  pub domain : List ℕ
  pub locale : List ℕ
  pub source : SourceValue
