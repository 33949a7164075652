-- What the steps of the compiler add up to.
use Rattle.catalogue.proofs.Kit.{◌≡◌, ℕ, ◌+◌, ◌^◌, ◌<◌, Bool, List, [], ◌∷◌, length, get_or, Option, None, Some, sym}
use Rattle.catalogue.proofs.Kit.{ap, ◌∙◌, subst, arith, IfSome, option_map, filter_map, count_by, find, get_or-map}
use Rattle.catalogue.proofs.Kit.{length-map, HasAcceptedCharset, Means, IsMapOf, Refuses, kept_entries, header_line_of}
use Rattle.catalogue.proofs.Kit.{Fails, HasDistinctKeys, IsDuplicateAt, IsFirst, Entry, Outline, outline, outlines}
use Rattle.catalogue.proofs.Kit.{kept_entry, comes_before, counts_as, is_kept_header, IsRepeat, FirstRepeat}
use Rattle.catalogue.proofs.Kit.{IsFirstRepeat, Findings, Options, Compiled, Draft, Untranslated, Fuzzy, Translated}
use Rattle.catalogue.proofs.Kit.{LoadKind, TooLarge}
use Rattle.std.specs.Prelude.{if◌then◌else◌}
use Rattle.std.specs.List.Sorted.{IsPermutation, IsSortedBy}
use Rattle.std.specs.Option.{option_map_or}
use Rattle.std.proofs.lemmas.List.Sorted.{IsPermutation-map}
use denote.Ref.{Bor}
use Rattle.po_text.specs.Entries as po
use Rattle.po_text.specs.Outcome.{Gives}
use Rattle.po_text.proofs.Sizes.{gives_count}
use Rattle.po_header.specs.Rule.{Rule, HasRuleIn}
use Rattle.po_checks.specs.Found.{IsFault}
use Rattle.mo_image.specs.Map.{IsLawful, header_text as header_of}
use Rattle.catalogue_map.specs.Value.{HasMapRule}
use Rattle.catalogue.specs.Meaning.{lacking_fields, none_missing}
use Rattle.po_checks.specs.Kept.{kept_header, header_text_of, HasHeaderRule, NamesAcceptedCharset}
use Rattle.po_checks.specs.Fails.{IsForeignAt}
use Rattle.catalogue_drafts.specs.Drafts.{header_text_in, HasCollected}
use Rattle.catalogue_drafts.specs.declared.stats.Stats.{Stats}
use Rattle.po_checks.specs.declared.fault.LoadFault.{LoadFault}
use Rattle.po_checks.specs.declared.fault.LoadKind.TheVariants.{Duplicate, Charset}
use Rattle.catalogue_drafts.proofs.Collecting.{drafts_are}
use Rattle.catalogue.proofs.Counting.{untranslated_count, fuzzy_count, translated_count, header_line_is}
use Rattle.catalogue.proofs.Fitting.{fits}
use Rattle.catalogue.proofs.HeaderFound.{accepted, another, header_text_is, map_text}
use Rattle.catalogue_drafts.proofs.InOrder.{AreOrdered, outline_lt, all_distinct, first_duplicate}
use Rattle.catalogue.proofs.Listing.{map_of, is_map, each_lawful}
use Rattle.po_checks.proofs.Refusals.{all_pass, first_is_check, first_is_duplicate, first_is_foreign}

-- a refusal of the entries is one of the text
pub as_refusal : (text : List ℕ) (o : Options) (es : List po.Entry) (kind : LoadKind) (line : ℕ) → Gives text es
    → IsFirst (Fails o es) kind line → Refuses text o kind line
as_refusal text o es TooLarge line gives f = absurd f.holds
as_refusal text o es kind line gives f =
    let all : (entries : List po.Entry) × Gives text entries × IsFirst (Fails o entries) kind line = (es, gives, f) in
    first_of (assumption all, search f.holds)

-- the number of drafts fits in 32 bits
pub few : (text : List ℕ) (o : Options) (drafts : List Draft) (found : Findings) → HasCollected text o drafts found
    → length drafts < 2 ^ 32
few text o drafts found c = omega (
  arith,
  drafts_are o drafts c.entries c.rows_are,
  gives_count text c.entries c.gives,
  c.gives.readable.size,
)

-- the sorted drafts
pub record Sorts (before after : List Draft) : Type 0 where
  pub same : IsPermutation before after
  pub sorted : IsSortedBy comes_before after

sorted_rows : (ds : List Draft) → IsSortedBy comes_before ds → IsSortedBy outline_lt (outlines ds)
sorted_rows [] sorted k d le lt = absurd (omega arith)
sorted_rows (x ∷ ds) sorted k d le lt =
    let short : k + 1 < length (x ∷ ds) = omega (arith, lt, length-map (x ∷ ds) outline) in
    let here : get_or (outlines (x ∷ ds)) k d ≡ outline (get_or (x ∷ ds) k x) = get_or-map outline (x ∷ ds) k x d
    (omega arith) in
    let next : get_or (outlines (x ∷ ds)) (k + 1) d ≡ outline (get_or (x ∷ ds) (k + 1) x) = get_or-map outline (x ∷ ds)
    (k + 1) x d short in
    ap (λ r. outline_lt r (get_or (outlines (x ∷ ds)) k d)) next
    ∙ ap (outline_lt (outline (get_or (x ∷ ds) (k + 1) x))) here ∙ sorted k x (omega arith) short

ordered : (text : List ℕ) (o : Options) (before after : List Draft) (found : Findings)
    → (c : HasCollected text o before found) → Sorts before after → AreOrdered o c.entries (outlines after)
ordered text o before after found c s = record {
  same = subst (λ (rs : List Outline). IsPermutation rs (outlines after)) c.rows_are
      (IsPermutation-map outline before after s.same);
  sorted = sorted_rows after s.sorted;
}

-- ---- a repeat

pub refused : (text : List ℕ) (o : Options) (before after : List Draft) (found : Findings) (d : Draft)
    → HasCollected text o before found → Sorts before after → IsFirstRepeat (outlines after) (length after) (outline d)
    → Refuses text o Duplicate d.line
refused text o before after found d c s first =
    let n : length (outlines after) ≡ length after = length-map after outline in
    let is : IsDuplicateAt c.entries d.line = first_duplicate o c.entries (outlines after)
    (ordered text o before after found c s) (outline d) (subst (λ k. IsFirstRepeat (outlines after) k (outline d))
    (sym n) first) in
    (c.entries, c.gives, first_is_duplicate o c.entries d.line is)

-- ---- none

no_repeat : (after : List Draft) → FirstRepeat (outlines after) (length after) None → (j : ℕ)
    → ¬ IsRepeat (outlines after) j
no_repeat after none j repeats = none j (omega (arith, repeats.within, length-map after outline)) repeats

-- without a repeat, the keys are distinct
distinct_keys : (text : List ℕ) (o : Options) (before after : List Draft) (found : Findings)
    → (c : HasCollected text o before found) → Sorts before after → FirstRepeat (outlines after) (length after) None
    → HasDistinctKeys c.entries
distinct_keys text o before after found c s none = all_distinct o c.entries (outlines after)
    (ordered text o before after found c s) (no_repeat after none)

-- what was read of the header: its line, and its text if there is one
pub record IsHeader (drafts : List Draft) (header : Option (Bor (List ℕ))) (line : ℕ) : Type 0 where
  pub line_is : line ≡ option_map_or (λ d. d.line) (find (λ d. is_kept_header (outline d)) drafts) 0
  pub text_is : option_map (λ text. text.now) header ≡ header_text_in drafts

pub header_text : (text : List ℕ) (o : Options) (before : List Draft) (found : Findings)
    (header : Option (Bor (List ℕ))) (line : ℕ) → (c : HasCollected text o before found) → IsHeader before header line
    → option_map (λ text. text.now) header ≡ header_text_of o c.entries
header_text text o before found header line c h = h.text_is ∙ header_text_is o c.entries before c.rows_are c.lawful

lines_are : (text : List ℕ) (o : Options) (before : List Draft) (found : Findings) (header : Option (Bor (List ℕ)))
    (line : ℕ) → (c : HasCollected text o before found) → IsHeader before header line → line
    ≡ header_line_of o c.entries
lines_are text o before found header line c h = h.line_is ∙ header_line_is o c.entries before c.rows_are

text_accepted : (header : Option (Bor (List ℕ))) (t : Option (List ℕ)) → option_map (λ text. text.now) header ≡ t
    → IfSome header (λ text. HasAcceptedCharset text.now) → IfSome t HasAcceptedCharset
text_accepted None t is named = subst (λ (x : Option (List ℕ)). IfSome x HasAcceptedCharset) is tt
text_accepted (Some text) t is named = subst (λ (x : Option (List ℕ)). IfSome x HasAcceptedCharset) is named

accepted_text : (header : Option (Bor (List ℕ))) (t : Option (List ℕ)) → option_map (λ text. text.now) header ≡ t
    → IfSome t HasAcceptedCharset → IfSome header (λ text. HasAcceptedCharset text.now)
accepted_text None t is named = tt
accepted_text (Some text) t is named = subst (λ (x : Option (List ℕ)). IfSome x HasAcceptedCharset) (sym is) named

abbrev pub NamesCharsets : Option (Bor (List ℕ)) → Type 0
NamesCharsets header = IfSome header (λ text. HasAcceptedCharset text.now)

header_accepted : (text : List ℕ) (o : Options) (before : List Draft) (found : Findings)
    (header : Option (Bor (List ℕ))) (line : ℕ) → (c : HasCollected text o before found) → IsHeader before header line
    → NamesCharsets header → IfSome (kept_header o c.entries) NamesAcceptedCharset
header_accepted text o before found header line c h named = accepted o c.entries
    (text_accepted header (header_text_of o c.entries) (header_text text o before found header line c h) named)

-- the header names a charset that isn't accepted
pub foreign : (text : List ℕ) (o : Options) (before after : List Draft) (found : Findings)
    (header : Option (Bor (List ℕ))) (line : ℕ) → HasCollected text o before found → Sorts before after
    → FirstRepeat (outlines after) (length after) None → IsHeader before header line → (NamesCharsets header → ⊥)
    → Refuses text o Charset line
foreign text o before after found header line c s none h unnamed =
    let a = another o c.entries (λ named. unnamed (accepted_text header (header_text_of o c.entries)
    (header_text text o before found header line c h) named)) in
    let is : IsForeignAt o c.entries line = record {
      header = a.header;
      is = a.is;
      foreign = a.foreign;
      line_is = lines_are text o before found header line c h
          ∙ ap (λ (x : Option po.Entry). option_map_or (λ (e : po.Entry). e.line) x 0) a.is;
    } in
    (c.entries, c.gives, first_is_foreign o c.entries line (distinct_keys text o before after found c s none) is)

rule_is : (text : List ℕ) (o : Options) (before : List Draft) (found : Findings) (header : Option (Bor (List ℕ)))
    (line : ℕ) (rule : Rule) → (c : HasCollected text o before found) → IsHeader before header line
    → HasRuleIn (option_map (λ text. text.now) header) rule → HasHeaderRule o c.entries rule
rule_is text o before found header line rule c h has = subst (λ (t : Option (List ℕ)). HasRuleIn t rule)
    (header_text text o before found header line c h) has

pub failed : (text : List ℕ) (o : Options) (before after : List Draft) (found : Findings)
    (header : Option (Bor (List ℕ))) (line : ℕ) (rule : Rule) (fault : LoadFault) → HasCollected text o before found
    → Sorts before after → FirstRepeat (outlines after) (length after) None → IsHeader before header line
    → NamesCharsets header → HasRuleIn (option_map (λ text. text.now) header) rule
    → IsFault found o rule line (Some fault) → Refuses text o fault.kind fault.line
failed text o before after found header line rule fault c s none h named has checks =
    as_refusal text o c.entries fault.kind fault.line c.gives
    (first_is_check o c.entries fault.kind fault.line (distinct_keys text o before after found c s none)
    (header_accepted text o before found header line c h named)
    (checks c.entries c.found (rule_is text o before found header line rule c h has)
    (lines_are text o before found header line c h)))

pub lawful_map : (text : List ℕ) (o : Options) (before after : List Draft) (found : Findings)
    (header : Option (Bor (List ℕ))) (line : ℕ) (m : List Entry) → HasCollected text o before found → Sorts before after
    → FirstRepeat (outlines after) (length after) None → IsHeader before header line → NamesCharsets header → m
    ≡ filter_map kept_entry (outlines after) → IsLawful (m)
lawful_map text o before after found header line m c s none h named kept_are =
    let sorted = ordered text o before after found c s in
    let is = is_map o c.entries (outlines after) sorted c.lawful (no_repeat after none) in
    subst IsLawful (sym kept_are) (record {
      rises = is.rises;
      each = each_lawful o c.entries (outlines after) sorted c.lawful;
      charset = subst (λ (t : Option (List ℕ)). IfSome t HasAcceptedCharset)
          (sym (map_text o c.entries (map_of (outlines after)) is (distinct_keys text o before after found c s none)))
          (text_accepted header (header_text_of o c.entries) (header_text text o before found header line c h) named);
      fits = fits o text c.entries (outlines after) c.gives sorted c.lawful;
    })

-- the rule that was read is the map's
pub map_rule : (text : List ℕ) (o : Options) (before after : List Draft) (found : Findings)
    (header : Option (Bor (List ℕ))) (line : ℕ) (rule : Rule) (m : List Entry) → HasCollected text o before found
    → Sorts before after → FirstRepeat (outlines after) (length after) None → IsHeader before header line
    → HasRuleIn (option_map (λ text. text.now) header) rule → m ≡ filter_map kept_entry (outlines after)
    → HasMapRule m rule
map_rule text o before after found header line rule m c s none h has kept_are =
    let is = is_map o c.entries (outlines after) (ordered text o before after found c s) c.lawful
    (no_repeat after none) in
    let text_is : header_text_of o c.entries ≡ header_of m = sym (ap header_of kept_are
    ∙ map_text o c.entries (map_of (outlines after)) is (distinct_keys text o before after found c s none)) in
    subst (λ (t : Option (List ℕ)). HasRuleIn t rule) text_is (rule_is text o before found header line rule c h has)

-- the counts of the drafts
pub record Counts (drafts : List Draft) (stats : Stats) : Type 0 where
  pub translated : stats.translated ≡ count_by (λ d. counts_as Translated (outline d)) drafts
  pub fuzzy : stats.fuzzy ≡ count_by (λ d. counts_as Fuzzy (outline d)) drafts
  pub untranslated : stats.untranslated ≡ count_by (λ d. counts_as Untranslated (outline d)) drafts

stats_eq : (s t : Stats) → s.translated ≡ t.translated → s.fuzzy ≡ t.fuzzy → s.untranslated ≡ t.untranslated → s ≡ t
stats_eq s t a b c =
    let of : ℕ → ℕ → ℕ → Stats = λ x y z. record { translated = x; fuzzy = y; untranslated = z } in
    ap (λ n. of n s.fuzzy s.untranslated) a ∙ ap (λ n. of t.translated n s.untranslated) b
    ∙ ap (λ n. of t.translated t.fuzzy n) c

-- the fields that were looked for
abbrev pub Lacks : Options → Option (Bor (List ℕ)) → List Bool → Type 0
Lacks o header missing = missing ≡ (if o.checked then lacking_fields (option_map (λ text. text.now) header)
    else none_missing)

pub compiles : (text : List ℕ) (o : Options) (before after : List Draft) (found : Findings)
    (header : Option (Bor (List ℕ))) (rule : Rule) (m : List Entry) (compiled : Compiled)
    → HasCollected text o before found
    → Sorts before after → FirstRepeat (outlines after) (length after) None
    → IsHeader before header compiled.header_line → NamesCharsets header
    → HasRuleIn (option_map (λ text. text.now) header) rule → IsFault found o rule compiled.header_line None → m
    ≡ filter_map kept_entry (outlines after) → Counts before compiled.stats → compiled.catalogue ≡ m
    → Lacks o header compiled.missing → Means text o compiled
compiles text o before after found header rule m compiled c s none h named has checks kept_are counts catalogue_is
    missing_are =
    let sorted = ordered text o before after found c s in
    let line_is : compiled.header_line ≡ header_line_of o c.entries = lines_are text o before found header
    compiled.header_line c h in
    let text_is : option_map (λ text. text.now) header ≡ header_text_of o c.entries = header_text text o before found
    header compiled.header_line c h in
    record {
      entries = c.entries;
      gives = c.gives;
      passes = all_pass o c.entries (distinct_keys text o before after found c s none)
          (header_accepted text o before found header compiled.header_line c h named)
          (checks c.entries c.found (rule_is text o before found header compiled.header_line rule c h has) line_is);
      map_is = subst (IsMapOf (kept_entries o c.entries)) (sym (catalogue_is ∙ kept_are))
          (is_map o c.entries (outlines after) sorted c.lawful (no_repeat after none));
      stats_are = stats_eq compiled.stats _ (counts.translated ∙ translated_count o c.entries before c.rows_are)
          (counts.fuzzy ∙ fuzzy_count o c.entries before c.rows_are)
          (counts.untranslated ∙ untranslated_count o c.entries before c.rows_are);
      header_line_is = line_is;
      missing_is = missing_are ∙ ap (λ (t : Option (List ℕ)). if o.checked then lacking_fields t else none_missing)
          text_is;
    }
