-- A text that can't be decoded is refused.
use Rattle.std.proofs.Common.{◌≡◌, ℕ, List, inl, inr}
use Rattle.std.specs.Prelude.{◌⊎◌}
use Rattle.po_checks.specs.Refusal.{out_of_memory}
use Rattle.po_checks.specs.declared.options.Options.{Options}
use Rattle.po_checks.specs.declared.fault.LoadFault.{LoadFault}
use Rattle.po_checks.specs.declared.fault.LoadKind.{LoadKind}
use Rattle.catalogue.specs.Meaning.{Refuses}
use Rattle.charsets.specs.declared.kinds.Charset.{Charset}
use Rattle.any_charset.specs.Declaring.{Declares}
use Rattle.any_charset.specs.Recoding.{CannotRecode, IsForCharset, IsForeignBy, IsRecoded, RefusesAny, RefusesAnyBy}
use Rattle.any_charset.specs.Renaming.{FailsToDecode}
use Rattle.any_charset.specs.declared.fault.TextFault.{TextFault}
use Rattle.any_charset.specs.declared.fault.TextFault.TheVariants.{Load, NoCharacter}

pub undecoded : (text : List ℕ) (charset : Charset) (renamed : List ℕ) (fault : TextFault)
    → Declares text charset renamed → FailsToDecode charset renamed fault → CannotRecode text fault
undecoded text charset renamed (Load fault) declares h = h
undecoded text charset renamed (NoCharacter line) declares (at, first, is) = record {
  charset = charset;
  renamed = renamed;
  declares = declares;
  at = at;
  first = first;
  line_is = is;
}

pub failed : (text : List ℕ) (options : Options) (fault : TextFault) → IsForeignBy Refuses text options
    → CannotRecode text fault → RefusesAny text options fault
failed text options (Load fault) foreign h = inl h
failed text options (NoCharacter line) foreign h = record { foreign = foreign; lacks = h }

-- ---- by what refuses texts in UTF-8

module _ (Refuses : List ℕ → Options → LoadKind → ℕ → Type 0) where
  pub refused_recoded : (text : List ℕ) (o : Options) (recoded : List ℕ) (fault : LoadFault)
      → IsForeignBy Refuses text o → IsRecoded text recoded
      → (fault ≡ out_of_memory) ⊎ Refuses recoded o fault.kind fault.line → RefusesAnyBy Refuses text o (Load fault)
  refused_recoded text o recoded fault foreign recodes (inl e) = inl e
  refused_recoded text o recoded fault foreign recodes (inr r) =
      inr (inr (record { foreign = foreign; recoded = recoded; recodes = recodes; refuses = r }))

  pub refused_plain : (text : List ℕ) (o : Options) (fault : LoadFault) → ¬ IsForCharset fault.kind
      → (fault ≡ out_of_memory) ⊎ Refuses text o fault.kind fault.line → RefusesAnyBy Refuses text o (Load fault)
  refused_plain text o fault native (inl e) = inl e
  refused_plain text o fault native (inr r) =
      inr (inl (record { refuses = r; no_other = λ is. absurd (native is) }))
