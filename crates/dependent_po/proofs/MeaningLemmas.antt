-- What was gathered of a text is what the text compiles to.
use Rattle.std.proofs.Common.{◌≡◌, ℕ, ◌<◌, ◌^◌, List, length, Option, Some, None, refl, sym, ap, ◌∙◌, subst, inr, arith}
use Rattle.std.specs.Prelude.{Result, Ok, Err, IfErr, ◌⊎◌, if◌then◌else◌, option_map, string_bytes}
use Rattle.std.specs.Option.{option_map_or}
use Rattle.std.proofs.lemmas.List.{length-map}
use denote.Ref.{Bor}
use Rattle.po_text.specs.Entries as po
use Rattle.po_text.proofs.Sizes.{gives_count}
use Rattle.po_header.specs.Rule.{Rule, HasRuleIn}
use Rattle.po_checks.specs.Kept.{kept_header, header_text_of, HasHeaderRule}
use Rattle.po_checks.specs.Refusal.{out_of_memory}
use Rattle.po_checks.specs.declared.fault.LoadFault.{LoadFault}
use Rattle.mo_segments.specs.MessageStrings.{Strings, strings_of}
use Rattle.mo_segments.specs.Flat.{AreKept}
use Rattle.catalogue.specs.Meaning.{lacking_fields, none_missing}
use Rattle.dependent_po.specs.Counts.{standing_of, stats_by}
use Rattle.dependent_po.specs.EntryGathering.{HasGathered, IsGatheredOf, IsLateFault, IsSoundText, Gives, Options}
use Rattle.mo_image.specs.Map.{first_form}
use Rattle.po_checks.specs.Headers.{header_texts, stored_texts, IsHeaderOf}
use Rattle.po_checks.specs.declared.header.Header.{Header}
use Rattle.dependent_po.specs.MacroMeaning.{Means, Refuses, DependentCompiled}
use Rattle.dependent_po.specs.SplitViews.{messages_in}
use Rattle.dependent_po.specs.declared.gathered.Gathered.{Gathered}
use Rattle.dependent_po.proofs.CountLemmas.{stats_are}
use Rattle.dependent_po.proofs.FaultLemmas.{all_pass, gathered_line, refuses_late}

-- the text of the header
stored_text : (header : Option po.Entry) (stored : Option Header) → IsHeaderOf header stored
    → option_map (λ (h : Header). string_bytes h.text) stored
    ≡ option_map (λ (e : po.Entry). first_form e.forms) header
stored_text header stored is = sym (of_stored stored)
    ∙ ap (option_map (λ (p : List ℕ × ℕ). p.0)) is ∙ of_header header
  where
    of_stored : (s : Option Header) → option_map (λ (p : List ℕ × ℕ). p.0) (stored_texts s)
        ≡ option_map (λ (h : Header). string_bytes h.text) s
    of_stored None = refl
    of_stored (Some h) = refl

    of_header : (h : Option po.Entry) → option_map (λ (p : List ℕ × ℕ). p.0) (header_texts h)
        ≡ option_map (λ (e : po.Entry). first_form e.forms) h
    of_header None = refl
    of_header (Some e) = refl

text_is : (o : Options) (es : List po.Entry) (g : Gathered) → HasGathered o es g
    → option_map (λ (h : Header). string_bytes h.text) g.header ≡ header_text_of o es
text_is o es g has = stored_text (kept_header o es) g.header has.header

pub header_rule : (o : Options) (es : List po.Entry) (g : Gathered) (lent : Option (Bor (List ℕ))) (rule : Rule)
    → HasGathered o es g → option_map (λ text. text.now) lent
    ≡ option_map (λ (h : Header). string_bytes h.text) g.header → HasRuleIn (option_map (λ text. text.now) lent) rule
    → HasHeaderRule o es rule
header_rule o es g lent rule has lent_is rule_is = subst (λ (t : Option (List ℕ)). HasRuleIn t rule)
    (lent_is ∙ text_is o es g has) rule_is

pub few : (text : List ℕ) (o : Options) (g : Gathered) → IsGatheredOf text o g → length g.standings.items < 2 ^ 32
few text o g h = omega (
  arith,
  ap length h.has.standings,
  length-map h.entries standing_of,
  gives_count text h.entries h.gives,
  h.gives.readable.size,
)

pub gathered_of : (text : List ℕ) (o : Options) (g : Gathered) → IsSoundText text o
    → (es : List po.Entry) × Gives text es × HasGathered o es g → IsGatheredOf text o g
gathered_of text o g sound (es, gives, has) = record { sound = sound; entries = es; gives = gives; has = has }

-- a fault by what was gathered refuses the text
pub refused : (text : List ℕ) (o : Options) (g : Gathered) (lent : Option (Bor (List ℕ))) (rule : Rule)
    (fault : LoadFault) → IsGatheredOf text o g → option_map (λ text. text.now) lent
    ≡ option_map (λ (h : Header). string_bytes h.text) g.header → HasRuleIn (option_map (λ text. text.now) lent) rule
    → IsLateFault o g rule (Some fault) → (fault ≡ out_of_memory) ⊎ Refuses text o fault.kind fault.line
refused text o g lent rule fault h lent_is rule_is late = inr (refuses_late text o h.entries fault h.sound h.gives
    (late h.entries h.has (header_rule o h.entries g lent rule h.has lent_is rule_is)))

-- this was made of what was gathered
pub record IsMadeOf (o : Options) (g : Gathered) (compiled : DependentCompiled) : Type 0 where
  pub statics : AreKept (strings_of g.messages.statics.items) (strings_of compiled.statics.items)
  pub dependents : compiled.dependents.items ≡ g.messages.dependents.items
  pub stats : compiled.stats ≡ stats_by g.standings.items
  pub header_line : compiled.header_line ≡ option_map_or (λ (h : Header). h.line) g.header 0
  pub missing : compiled.missing
      ≡ (if o.checked then lacking_fields (option_map (λ (h : Header). string_bytes h.text) g.header) else none_missing)

pub compiles : (text : List ℕ) (o : Options) (g : Gathered) (lent : Option (Bor (List ℕ))) (rule : Rule)
    (compiled : DependentCompiled) → IsGatheredOf text o g → option_map (λ text. text.now) lent
    ≡ option_map (λ (h : Header). string_bytes h.text) g.header → HasRuleIn (option_map (λ text. text.now) lent) rule
    → IsLateFault o g rule None → IsMadeOf o g compiled → Means text o compiled
compiles text o g lent rule compiled h lent_is rule_is late made = record {
  entries = h.entries;
  gives = h.gives;
  passes = all_pass text o h.entries h.sound h.gives
      (late h.entries h.has (header_rule o h.entries g lent rule h.has lent_is rule_is));
  parts_are = record {
    messages = h.has.messages.messages;
    are = h.has.messages.are;
    statics_are = subst (λ (ss : List Strings). AreKept ss (strings_of compiled.statics.items))
        h.has.messages.statics_are made.statics;
    dependents_are = ap messages_in made.dependents ∙ h.has.messages.dependents_are;
  };
  stats_are = made.stats ∙ ap stats_by h.has.standings ∙ stats_are h.entries;
  header_line_is = made.header_line ∙ gathered_line o h.entries g h.has;
  missing_is = made.missing ∙ ap (λ (t : Option (List ℕ)). if o.checked then lacking_fields t else none_missing)
      (text_is o h.entries g h.has);
}

pub IfErr-map : {T E : Type 0} {P Q : E → Type 0} (r : Result T E) → ((e : E) → P e → Q e) → IfErr r P → IfErr r Q
IfErr-map (Ok x) f h = tt
IfErr-map (Err e) f h = f e h
