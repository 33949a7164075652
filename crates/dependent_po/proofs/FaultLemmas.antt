-- The first fault of entries whose formats may name macros.
use Rattle.std.proofs.Common.{◌≡◌, ℕ, ◌<◌, ◌≤◌, Bool, true, false, List, Option, Some, None, refl, sym, ap, ◌∙◌, subst}
use Rattle.std.proofs.Common.{arith, inl, inr}
use Rattle.std.specs.Prelude.{◌⊎◌, IsTrue, if◌then◌else◌}
use Rattle.std.specs.Option.{option_map_or}
use Rattle.std.proofs.lemmas.Bool.{false≢true}
use Rattle.po_text.specs.Entries as po
use Rattle.po_text.specs.Outcome as outcome
use Rattle.po_text.specs.declared.PoKind.TheVariants as kinds
use Rattle.po_text.proofs.Outcomes.{gives_one}
use Rattle.po_checks.specs.Fails.{IsDuplicateAt, IsForeignAt, IsFirst, rank}
use Rattle.po_checks.specs.Fails as plain
use Rattle.po_checks.specs.Found.{FirstLine, FirstFault, FailsFrom, IsFault}
use Rattle.po_checks.specs.Kept.{kept_entries, kept_header, header_line_of}
use Rattle.po_checks.specs.Refusal.{out_of_memory}
use Rattle.po_checks.specs.declared.findings.Findings.{Findings}
use Rattle.po_checks.specs.declared.fault.LoadKind.TheVariants.{TooLarge, NotUtf8, BadEscape, OpenString, BadWord}
use Rattle.po_checks.specs.declared.fault.LoadKind.TheVariants.{BadText, BadOrder, BadIndex, Duplicate, Charset}
use Rattle.po_checks.specs.declared.fault.LoadKind.TheVariants.{SystemDependent, NoRule, BadRule, FormCount}
use Rattle.po_checks.specs.declared.fault.LoadKind.TheVariants.{PluralRange, FormatMismatch, NewlineMismatch, Memory}
use Rattle.po_checks.proofs.FirstLines.{first_not_none}
use Rattle.catalogue.specs.Meaning as catalogue
use Rattle.catalogue.specs.declared.compiler.Compiled.{Compiled}
use Rattle.dependent_po.specs.Formats.{HasOtherArguments}
use Rattle.dependent_po.specs.EntryGathering.{FailsLate, HasGathered, IsLateFault, IsSoundText, Rule, Options, LoadKind}
use Rattle.po_checks.specs.Headers.{header_texts, stored_texts, IsHeaderOf}
use Rattle.po_checks.specs.declared.header.Header.{Header}
use Rattle.dependent_po.specs.Late.{is_late, is_for_newlines, with_mismatch, LoadFault}
use Rattle.dependent_po.specs.MacroMeaning.{Fails, Refuses, FirstAt}
use Rattle.dependent_po.specs.declared.gathered.Gathered.{Gathered}
use Rattle.dependent_po.proofs.LateLemmas.{bares, fails_back, fails_to, found_bare, line_bare, rule_bare}

-- ---- formats, between the other checks

late_above : (o : Options) (es : List po.Entry) (kind : LoadKind) (line : ℕ) → FailsLate o es kind line
    → 16 < rank kind → is_for_newlines kind ≡ true
late_above o es NewlineMismatch line f lt = refl
late_above o es _ line f lt = absurd (first_of (omega (arith, lt), assumption f.1))

newlines_rank : (kind : LoadKind) → is_for_newlines kind ≡ true → rank kind ≡ 17
newlines_rank NewlineMismatch is = refl
newlines_rank _ is = absurd (false≢true is)

-- a fault that is not of newlines comes before or is reported with none of formats
other_first : (o : Options) (es : List po.Entry) (f : LoadFault) → FirstFault (FailsFrom 11 o (bares es)) (Some f)
    → is_for_newlines f.kind ≡ false → FirstFault (FailsLate o es) (Some f)
other_first o es f first not_last = record {
  holds = holds;
  first = λ other at lt late. elim (fails_to o es other at late) [
    | inl x ↦ first.first other at lt x
    | inr (is, checked, found) ↦ absurd (false≢true (sym not_last ∙ late_above o es f.kind f.line holds
        (omega (arith, is, lt))))
  ];
}
  where
    holds : FailsLate o es f.kind f.line
    holds = fails_back o es f.kind f.line first.holds

formats_first : (o : Options) (es : List po.Entry) (line : ℕ) → IsTrue o.checked
    → FirstAt HasOtherArguments (kept_entries o es) line
    → ((kind : LoadKind) (at : ℕ) → rank kind < 16 → FailsFrom 11 o (bares es) kind at → ⊥)
    → FirstFault (FailsLate o es) (Some (record { kind = FormatMismatch; line = line }))
formats_first o es line checked found none = record {
  holds = (omega arith, (checked, found));
  first = λ other at lt late. elim (fails_to o es other at late) [
    | inl x ↦ none other at lt x
    | inr (is, checked_so, found_so) ↦ omega (arith, is, lt)
  ];
}

no_formats : (o : Options) (es : List po.Entry) (fault : Option LoadFault)
    → FirstFault (FailsFrom 11 o (bares es)) fault
    → ((line : ℕ) → IsTrue o.checked → FirstAt HasOtherArguments (kept_entries o es) line → ⊥)
    → FirstFault (FailsLate o es) fault
no_formats o es None none never = λ kind line late. elim (fails_to o es kind line late) [
  | inl x ↦ none kind line x
  | inr (is, checked, found) ↦ never line checked found
]
no_formats o es (Some f) first never = record {
  holds = fails_back o es f.kind f.line first.holds;
  first = λ other at lt late. elim (fails_to o es other at late) [
    | inl x ↦ first.first other at lt x
    | inr (is, checked, found) ↦ never at checked found
  ];
}

checked_first : (o : Options) (es : List po.Entry) (fault : Option LoadFault) (mismatch : Option ℕ)
    → IsTrue o.checked → FirstFault (FailsFrom 11 o (bares es)) fault
    → FirstLine HasOtherArguments (kept_entries o es) mismatch
    → FirstFault (FailsLate o es) (with_mismatch fault mismatch)
checked_first o es fault None checked first none = no_formats o es fault first
    (λ line c found. first_not_none HasOtherArguments (kept_entries o es) line found none)
checked_first o es None (Some line) checked first found = formats_first o es line checked found
    (λ kind at lt x. first kind at x)
checked_first o es (Some f) (Some line) checked first found = of (is_for_newlines f.kind) refl
  where
    of : (b : Bool) → is_for_newlines f.kind ≡ b → FirstFault (FailsLate o es)
        (if b then Some (record { kind = FormatMismatch; line = line }) else Some f)
    of true is = formats_first o es line checked found
        (λ kind at lt x. first.first kind at (omega (arith, lt, newlines_rank f.kind is)) x)
    of false is = other_first o es f first is

pub with_formats : (o : Options) (es : List po.Entry) (fault : Option LoadFault) (mismatch : Option ℕ)
    → FirstFault (FailsFrom 11 o (bares es)) fault
    → (IsTrue o.checked → FirstLine HasOtherArguments (kept_entries o es) mismatch)
    → FirstFault (FailsLate o es) (with_mismatch fault (if o.checked then mismatch else None))
with_formats o es fault mismatch first found = of o.checked refl
  where
    of : (b : Bool) → o.checked ≡ b → FirstFault (FailsLate o es) (with_mismatch fault (if b then mismatch else None))
    of true is = checked_first o es fault mismatch is first (found is)
    of false is = no_formats o es fault first (λ line c f. false≢true (sym is ∙ c))

-- ---- by what was gathered

stored_line : (header : Option po.Entry) (stored : Option Header) → IsHeaderOf header stored
    → option_map_or (λ (h : Header). h.line) stored 0 ≡ option_map_or (λ (e : po.Entry). e.line) header 0
stored_line header stored is = sym (of_stored stored)
    ∙ ap (λ (x : Option (List ℕ × ℕ)). option_map_or (λ (p : List ℕ × ℕ). p.1) x 0) is ∙ of_header header
  where
    of_stored : (s : Option Header) → option_map_or (λ (p : List ℕ × ℕ). p.1) (stored_texts s) 0
        ≡ option_map_or (λ (h : Header). h.line) s 0
    of_stored None = refl
    of_stored (Some h) = refl

    of_header : (h : Option po.Entry) → option_map_or (λ (p : List ℕ × ℕ). p.1) (header_texts h) 0
        ≡ option_map_or (λ (e : po.Entry). e.line) h 0
    of_header None = refl
    of_header (Some e) = refl

pub gathered_line : (o : Options) (es : List po.Entry) (g : Gathered) → HasGathered o es g
    → option_map_or (λ (h : Header). h.line) g.header 0 ≡ header_line_of o es
gathered_line o es g has = stored_line (kept_header o es) g.header has.header

pub late_fault_is : (o : Options) (g : Gathered) (rule : Rule) (at : ℕ) (others : Findings) (fault : Option LoadFault)
    (mismatch : Option ℕ) → others ≡ record {
      system_dependent = None;
      mismatch = None;
      newlines = g.findings.newlines;
      plurals = g.findings.plurals;
    } → at ≡ option_map_or (λ (h : Header). h.line) g.header 0 → IsFault others o rule at fault → mismatch
    ≡ (if o.checked then g.mismatch else None) → (result : Option LoadFault) → result ≡ with_mismatch fault mismatch
    → IsLateFault o g rule result
late_fault_is o g rule at others fault mismatch others_are at_is is mismatch_is result result_is es has rule_has =
    let found = is (bares es)
    (subst (Rattle.po_checks.specs.Found.HasFound o (bares es)) (sym others_are)
    (found_bare o es g.findings has.findings))
    (rule_bare o es rule rule_has)
    (at_is ∙ gathered_line o es g has ∙ sym (line_bare o es)) in
    subst (FirstFault (FailsLate o es)) (sym (result_is ∙ ap (with_mismatch fault) mismatch_is))
    (with_formats o es fault g.mismatch found has.mismatch)

-- ---- what comes before

early : (o : Options) (es : List po.Entry) (kind : LoadKind) (line : ℕ) → Fails o es kind line
    → IsDuplicateAt es line ⊎ IsForeignAt o es line ⊎ FailsLate o es kind line
early o es Duplicate line f = inl f
early o es Charset line f = inr (inl f)
early o es _ line f = inr (inr (grind arith, f))

-- the text is sound, by the entries that it gives
pub sound_entries : (text : List ℕ) (o : Options) (es : List po.Entry) → IsSoundText text o → outcome.Gives text es
    → ((line : ℕ) → ¬ IsDuplicateAt es line) × ((line : ℕ) → ¬ IsForeignAt o es line)
sound_entries text o es sound gives =
    let same : sound.entries ≡ es = gives_one text sound.entries es sound.gives gives in (
      subst (λ (xs : List po.Entry). (line : ℕ) → ¬ IsDuplicateAt xs line) same sound.no_duplicate,
      subst (λ (xs : List po.Entry). (line : ℕ) → ¬ IsForeignAt o xs line) same sound.not_foreign,
    )

pub all_pass : (text : List ℕ) (o : Options) (es : List po.Entry) → IsSoundText text o → outcome.Gives text es
    → FirstFault (FailsLate o es) None → (kind : LoadKind) (line : ℕ) → ¬ Fails o es kind line
all_pass text o es sound gives none kind line f =
    let s = sound_entries text o es sound gives in
    elim (early o es kind line f) [
      | inl d ↦ s.0 line d
      | inr (inl g) ↦ s.1 line g
      | inr (inr late) ↦ none kind line late
    ]

pub refuses_late : (text : List ℕ) (o : Options) (es : List po.Entry) (fault : LoadFault) → IsSoundText text o
    → outcome.Gives text es → FirstFault (FailsLate o es) (Some fault) → Refuses text o fault.kind fault.line
refuses_late text o es fault sound gives first =
    let s = sound_entries text o es sound gives in
    inr (
      es,
      gives,
      record {
        holds = first.holds.1;
        first = λ other at lt f. elim (early o es other at f) [
          | inl d ↦ s.0 at d
          | inr (inl g) ↦ s.1 at g
          | inr (inr late) ↦ first.first other at lt late
        ];
      },
    )

-- ---- what the compiler of catalogues says

pub sound_means : (text : List ℕ) (o : Options) (compiled : Compiled) → catalogue.Means text o compiled
    → IsSoundText text o
sound_means text o compiled means = record {
  entries = means.entries;
  gives = means.gives;
  no_duplicate = λ line d. means.passes Duplicate line d;
  not_foreign = λ line f. means.passes Charset line f;
}

sound_by : (text : List ℕ) (o : Options) (es : List po.Entry) (kind : LoadKind) (line : ℕ) → outcome.Gives text es
    → IsFirst (plain.Fails o es) kind line → 11 ≤ rank kind → IsSoundText text o
sound_by text o es kind line gives first le = record {
  entries = es;
  gives = gives;
  no_duplicate = λ at d. first.first Duplicate at (omega (arith, le)) d;
  not_foreign = λ at f. first.first Charset at (omega (arith, le)) f;
}

pub sound_refuses : (text : List ℕ) (o : Options) (kind : LoadKind) (line : ℕ) → is_late kind ≡ true
    → catalogue.Refuses text o kind line → IsSoundText text o
sound_refuses text o SystemDependent line is (es, gives, first) = sound_by text o es _ line gives first (omega arith)
sound_refuses text o NoRule line is (es, gives, first) = sound_by text o es _ line gives first (omega arith)
sound_refuses text o BadRule line is (es, gives, first) = sound_by text o es _ line gives first (omega arith)
sound_refuses text o FormCount line is (es, gives, first) = sound_by text o es _ line gives first (omega arith)
sound_refuses text o (PluralRange n) line is (es, gives, first) = sound_by text o es _ line gives first (omega arith)
sound_refuses text o FormatMismatch line is (es, gives, first) = sound_by text o es _ line gives first (omega arith)
sound_refuses text o NewlineMismatch line is (es, gives, first) = sound_by text o es _ line gives first (omega arith)
sound_refuses text o _ line is r = absurd (false≢true is)

early_plain : (o : Options) (es : List po.Entry) (kind : LoadKind) (line : ℕ) → rank kind < 11 → Fails o es kind line
    → plain.Fails o es kind line
early_plain o es SystemDependent line lt f = absurd f
early_plain o es FormatMismatch line lt f = absurd (omega (arith, lt))
early_plain o es _ line lt f = f

first_early : (o : Options) (es : List po.Entry) (kind : LoadKind) (line : ℕ) → rank kind < 11
    → Fails o es kind line → IsFirst (plain.Fails o es) kind line → IsFirst (Fails o es) kind line
first_early o es kind line early holds first = record {
  holds = holds;
  first = λ other at lt f. first.first other at lt (early_plain o es other at (omega (arith, early, lt)) f);
}

pub refuses_early : (text : List ℕ) (o : Options) (kind : LoadKind) (line : ℕ) → is_late kind ≡ false
    → catalogue.Refuses text o kind line → Refuses text o kind line
refuses_early text o TooLarge line is r = inl (kinds.TooLarge, refl, r)
refuses_early text o NotUtf8 line is r = inl (kinds.NotUtf8, refl, r)
refuses_early text o BadEscape line is r = inl (kinds.BadEscape, refl, r)
refuses_early text o OpenString line is r = inl (kinds.OpenString, refl, r)
refuses_early text o BadWord line is r = inl (kinds.BadWord, refl, r)
refuses_early text o BadText line is r = inl (kinds.BadText, refl, r)
refuses_early text o BadOrder line is r = inl (kinds.BadOrder, refl, r)
refuses_early text o BadIndex line is r = inl (kinds.BadIndex, refl, r)
refuses_early text o Duplicate line is (es, gives, first) =
    inr (es, gives, first_early o es Duplicate line (omega arith) first.holds first)
refuses_early text o Charset line is (es, gives, first) =
    inr (es, gives, first_early o es Charset line (omega arith) first.holds first)
refuses_early text o Memory line is (es, gives, first) = absurd first.holds
refuses_early text o _ line is r = absurd (false≢true (sym is))

-- ---- the front of a text, by a fault of the compiler of catalogues

memory_is_early : (fault : LoadFault) → fault ≡ out_of_memory → is_late fault.kind ≡ true → ⊥
memory_is_early fault memory late = false≢true (subst (λ (f : LoadFault). is_late f.kind ≡ true) memory late)

pub late_sound : (text : List ℕ) (o : Options) (fault : LoadFault) → is_late fault.kind ≡ true
    → (fault ≡ out_of_memory) ⊎ catalogue.Refuses text o fault.kind fault.line → IsSoundText text o
late_sound text o fault late (inl memory) = absurd (memory_is_early fault memory late)
late_sound text o fault late (inr refuses) = sound_refuses text o fault.kind fault.line late refuses

pub early_refused : (text : List ℕ) (o : Options) (fault : LoadFault) → is_late fault.kind ≡ false
    → (fault ≡ out_of_memory) ⊎ catalogue.Refuses text o fault.kind fault.line
    → (fault ≡ out_of_memory) ⊎ Refuses text o fault.kind fault.line
early_refused text o fault early (inl memory) = inl memory
early_refused text o fault early (inr refuses) =
    inr (refuses_early text o fault.kind fault.line early refuses)
