-- A written text compiles to the translated entries of its map.
use Rattle.std.proofs.Common.{◌≡◌, ℕ, ◌≤◌, Bool, true, false, List, [], ◌∷◌, length, map, refl, sym, ap, ◌∙◌, subst}
use Rattle.std.proofs.Common.{arith, inl, inr}
use Rattle.std.specs.Prelude.{Contains, All, not, ◌&&◌}
use Rattle.std.specs.List.{AllByRecursion, filter}
use Rattle.std.specs.Ordering.{nat_cmp}
use Rattle.std.specs.declared.cmp.Ordering.TheVariants.{Less}
use Rattle.std.specs.Cmp.Lexicographic.{slice_cmp}
use Rattle.std.proofs.lemmas.Bool.{cases_Bool}
use Rattle.std.proofs.lemmas.List.Elements.{All-contains_itself}
use Rattle.message.specs.Message.{Entry, key}
use Rattle.mo_image.specs.Map.{Rises, IsLawful}
use Rattle.po_text.specs.Entries as po
use Rattle.po_text.specs.Outcome.{max_text}
use Rattle.po_text.proofs.Outcomes.{gives_one}
use Rattle.po_checks.specs.Kept.{has_empty_form, is_kept}
use Rattle.po_checks.specs.declared.options.Options.{Options}
use Rattle.catalogue.specs.Meaning.{message_of, kept_entries, IsMapOf, Means}
use Rattle.catalogue.specs.declared.compiler.Compiled.{Compiled}
use Rattle.catalogue_drafts.proofs.Members.{has_cases, has_head, has_tail}
use Rattle.catalogue.proofs.OneMeaning.{rises_behind, below_members, meaning_one}
use Rattle.po_writing.specs.Written.{po_of}
use Rattle.po_writing.specs.Laws.{HasNoFlag, is_translated, translated_entries}
use Rattle.po_writing.proofs.Told.{tells}

-- ---- the kept entries

kept_one : (o : Options) (e : po.Entry) → HasNoFlag e → is_kept o e ≡ is_translated (message_of e)
kept_one o e h = let plain = h.not_fuzzy in rw plain (both (not (has_empty_form e.forms)))
  where
    both : (b : Bool) → b && true ≡ b
    both true = refl
    both false = refl

kept_messages : (o : Options) (entries : List po.Entry) → AllByRecursion HasNoFlag entries
    → map message_of (kept_entries o entries) ≡ translated_entries (map message_of entries)
kept_messages o [] h = refl
kept_messages o (e ∷ more) h =
    let same = kept_one o e h.0 in
    let later = kept_messages o more h.1 in
    elim (cases_Bool (is_translated (message_of e))) [
      | inl keeps ↦ let keeps' : is_kept o e ≡ true = same ∙ keeps in
          rw (keeps', keeps) (ap (λ (es : List Entry). message_of e ∷ es) later)
      | inr drops ↦ let drops' : is_kept o e ≡ false = same ∙ drops in rw (drops', drops) later
    ]

-- ---- they are a map

filter_has : (p : Entry → Bool) (m : List Entry) (x : Entry) → Contains (filter p m) x → Contains m x
filter_has p [] x has = absurd (omega (arith, has.1))
filter_has p (e ∷ m) x has = elim (cases_Bool (p e)) [
  | inl keeps ↦ elim (has_cases x e (filter p m) (rw keeps at has)) [
    | inl is ↦ has_head x e m is
    | inr behind ↦ has_tail x e m (filter_has p m x behind)
  ]
  | inr drops ↦ has_tail x e m (filter_has p m x (rw drops at has))
]

-- a key in front of those above it
rises_front : (k : List ℕ) (m : List Entry) → ((e : Entry) → Contains m e → slice_cmp nat_cmp k (key e) ≡ Less)
    → Rises (map key m) → Rises (k ∷ map key m)
rises_front k [] above rises = tt
rises_front k (e ∷ m) above rises = (above e (has_head e e m refl), rises)

rises_filter : (p : Entry → Bool) (m : List Entry) → Rises (map key m) → Rises (map key (filter p m))
rises_filter p [] rises = tt
rises_filter p (e ∷ m) rises =
    let later = rises_filter p m (rises_behind (key e) (map key m) rises) in
    elim (cases_Bool (p e)) [
      | inl keeps ↦ rw keeps (rises_front (key e) (filter p m) (λ x has. below_members (key e) m x rises
          (filter_has p m x has)) later)
      | inr drops ↦ rw drops later
    ]

kept_map : (o : Options) (entries : List po.Entry) (m : List Entry) → AllByRecursion HasNoFlag entries
    → map message_of entries ≡ m → Rises (map key m) → IsMapOf (kept_entries o entries) (translated_entries m)
kept_map o entries m h same rises =
    let are : map message_of (kept_entries o entries) ≡ translated_entries m = kept_messages o entries h
    ∙ ap translated_entries same in
    record {
      rises = rises_filter is_translated m rises;
      listed = subst (λ (xs : List Entry). All (Contains (translated_entries m)) xs) (sym are)
          (All-contains_itself (translated_entries m));
      nothing_else = subst (λ (xs : List Entry). All (Contains xs) (translated_entries m)) (sym are)
          (All-contains_itself (translated_entries m));
    }

-- ---- the law

pub compiles : (escape : Bool) (m : List Entry) (o : Options) (compiled : Compiled) → IsLawful m
    → length (po_of escape m) ≤ max_text → Means (po_of escape m) o compiled → compiled.catalogue ≡ translated_entries m
compiles escape m o compiled lawful short means =
    let told = tells escape m lawful short in
    let same : told.entries ≡ means.entries = gives_one (po_of escape m) told.entries means.entries told.gives
    means.gives in
    let flags = subst (λ (es : List po.Entry). AllByRecursion HasNoFlag es) same told.no_flags in
    let messages : map message_of means.entries ≡ m = ap (λ (es : List po.Entry). map message_of es) (sym same)
    ∙ told.messages_are in
    let other : Compiled = record compiled { catalogue = translated_entries m } in
    let meant : Means (po_of escape m) o other = record {
      entries = means.entries;
      gives = means.gives;
      passes = means.passes;
      map_is = kept_map o means.entries m flags messages lawful.rises;
      stats_are = means.stats_are;
      header_line_is = means.header_line_is;
      missing_is = means.missing_is;
    } in
    ap (λ (c : Compiled). c.catalogue) (meaning_one (po_of escape m) o compiled other means meant)
