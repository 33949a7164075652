-- A written text isn't refused where nothing but its form is checked.
use Rattle.std.proofs.Common.{◌≡◌, ℕ, ◌≤◌, Bool, true, false, List, [], ◌∷◌, ◌++◌, length, map, Option, None, Some}
use Rattle.std.proofs.Common.{refl, sym, ap, ◌∙◌, subst, arith, inl, inr}
use Rattle.std.specs.Prelude.{Contains, IfSome, IsTrue, option_map, ◌&&◌, is_none}
use Rattle.std.specs.List.{AllByRecursion, filter, find}
use Rattle.std.specs.Ordering.{nat_cmp}
use Rattle.std.specs.declared.cmp.Ordering.TheVariants.{Less}
use Rattle.std.specs.Cmp.{IsTotalOrder}
use Rattle.std.specs.Cmp.Lexicographic.{slice_cmp}
use Rattle.std.proofs.lemmas.Bool.{cases_Bool}
use Rattle.std.proofs.lemmas.Cmp.{nat_list_cmp_total, tied_itself}
use Rattle.message.specs.Message.{Entry, key, key_bytes, first_form}
use Rattle.message.specs.Charset.{HasAcceptedCharset}
use Rattle.mo_image.specs.Map.{Rises, IsLawful, entry_at, header_text}
use Rattle.po_text.specs.Entries as po
use Rattle.po_text.specs.Outcome.{max_text}
use Rattle.po_text.specs.declared.fault.PoKind.TheVariants as kinds
use Rattle.po_text.proofs.Outcomes.{gives_one, gives_or_refuses}
use Rattle.po_checks.specs.Kept.{key_of, is_header, is_empty, kept_entries, kept_header, is_kept}
use Rattle.po_checks.specs.Fails.{Fails}
use Rattle.po_checks.specs.declared.options.Options.{Options}
use Rattle.po_checks.specs.declared.fault.LoadKind.{LoadKind}
use Rattle.po_checks.specs.declared.fault.LoadKind.TheVariants.{TooLarge, NotUtf8, BadEscape, OpenString, BadWord}
use Rattle.po_checks.specs.declared.fault.LoadKind.TheVariants.{BadText, BadOrder, BadIndex, Duplicate, Charset}
use Rattle.po_checks.specs.declared.fault.LoadKind.TheVariants.{SystemDependent, NoRule, BadRule, FormCount}
use Rattle.po_checks.specs.declared.fault.LoadKind.TheVariants.{PluralRange, FormatMismatch, NewlineMismatch}
use Rattle.catalogue.specs.Meaning.{message_of, Refuses}
use Rattle.catalogue_drafts.proofs.Members.{has_cases, has_head, has_tail, has_map}
use Rattle.catalogue.proofs.OneMeaning.{rises_behind, below_members}
use Rattle.po_writing.specs.Written.{po_of}
use Rattle.po_writing.specs.Laws.{HasNoFlag, Tells}
use Rattle.po_writing.proofs.Told.{tells}

abbrev total : IsTotalOrder (slice_cmp nat_cmp)
total = nat_list_cmp_total

not_below_itself : (k : List ℕ) → slice_cmp nat_cmp k k ≡ Less → ⊥
not_below_itself k less = let tie = tied_itself total k in absurd (cc (less, tie))

-- ---- no key comes twice

key_below : (k : List ℕ) (before : List po.Entry) (e : po.Entry) (after : List po.Entry)
    → Rises (k ∷ map key_of (before ++ e ∷ after)) → slice_cmp nat_cmp k (key_of e) ≡ Less
key_below k [] e after rises = rises.0
key_below k (b ∷ before) e after rises = total.trans k (key_of b) (key_of e) rises.0
    (key_below (key_of b) before e after rises.1)

key_apart : (before : List po.Entry) (e : po.Entry) (after : List po.Entry) → Rises (map key_of (before ++ e ∷ after))
    → Contains (map key_of before) (key_of e) → ⊥
key_apart [] e after rises has = absurd (omega (arith, has.1))
key_apart (b ∷ before) e after rises has = elim (has_cases (key_of e) (key_of b) (map key_of before) has) [
  | inl same ↦ not_below_itself (key_of e) (subst (λ (k : List ℕ). slice_cmp nat_cmp k (key_of e) ≡ Less) same
      (key_below (key_of b) before e after rises))
  | inr behind ↦ key_apart before e after (rises_behind (key_of b) (map key_of (before ++ e ∷ after)) rises) behind
]

keys_of : (entries : List po.Entry) → map key_of entries ≡ map key (map message_of entries)
keys_of [] = refl
keys_of (e ∷ more) = ap (λ (ks : List (List ℕ)). key_of e ∷ ks) (keys_of more)

-- ---- the header names an accepted charset

member : {X : Type 0} (p : X → Bool) (xs : List X) (x : X) → Contains (filter p xs) x → Contains xs x
member p [] x has = absurd (omega (arith, has.1))
member p (y ∷ xs) x has = elim (cases_Bool (p y)) [
  | inl keeps ↦ elim (has_cases x y (filter p xs) (rw keeps at has)) [
    | inl is ↦ has_head x y xs is
    | inr behind ↦ has_tail x y xs (member p xs x behind)
  ]
  | inr drops ↦ has_tail x y xs (member p xs x (rw drops at has))
]

found : {X : Type 0} (p : X → Bool) (xs : List X) (x : X) → find p xs ≡ Some x → Contains xs x × (p x ≡ true)
found p [] x e = absurd (cc e)
found p (y ∷ xs) x e = elim (cases_Bool (p y)) [
  | inl passes ↦
      let at = rw passes at e in
      let same : y ≡ x = cc at in
      (has_head x y xs same, ap p (sym same) ∙ passes)
  | inr fails ↦ let later = found p xs x (rw fails at e) in (has_tail x y xs later.0, later.1)
]

no_id : (id : List ℕ) → is_empty id ≡ true → id ≡ []
no_id [] e = refl
no_id (b ∷ id) e = absurd (cc e)

no_key : (context : Option (List ℕ)) (id : List ℕ) → is_none context && is_empty id ≡ true → key_bytes context id ≡ []
no_key None id e = no_id id e
no_key (Some context) id e = absurd (cc e)

-- no key is below the empty one
none_below : (k : List ℕ) → slice_cmp nat_cmp k [] ≡ Less → ⊥
none_below [] e = absurd (cc e)
none_below (b ∷ k) e = absurd (cc e)

header_at : (m : List Entry) (e : Entry) → Rises (map key m) → Contains m e → key e ≡ [] → entry_at m [] ≡ Some e
header_at [] e rises has empty = absurd (omega (arith, has.1))
header_at (d ∷ m) e rises has empty = elim (has_cases e d m has) [
  | inl same ↦ let none : key d ≡ [] = ap key same ∙ empty in rw none (ap Some same)
  | inr behind ↦ absurd (none_below (key d) (subst (λ (k : List ℕ). slice_cmp nat_cmp (key d) k ≡ Less) empty
      (below_members (key d) m e rises behind)))
]

-- ---- no refusal

flag_at : (before : List po.Entry) (e : po.Entry) (after : List po.Entry) → AllByRecursion HasNoFlag
    (before ++ e ∷ after) → HasNoFlag e
flag_at [] e after h = h.0
flag_at (b ∷ before) e after h = flag_at before e after h.1

kept_flags : (p : po.Entry → Bool) (entries : List po.Entry) → AllByRecursion HasNoFlag entries
    → AllByRecursion HasNoFlag (filter p entries)
kept_flags p [] h = tt
kept_flags p (e ∷ more) h = elim (cases_Bool (p e)) [
  | inl keeps ↦ rw keeps (h.0, kept_flags p more h.1)
  | inr drops ↦ rw drops (kept_flags p more h.1)
]

unchecked : (o : Options) → o.checked ≡ false → IsTrue o.checked → ⊥
unchecked o off on = absurd (cc (off, on))

module _ (o : Options) (es : List po.Entry) (m : List Entry) (flags : AllByRecursion HasNoFlag es)
    (same : map message_of es ≡ m) (lawful : IsLawful m) (off : o.checked ≡ false) where
  rising : Rises (map key_of es)
  rising = subst (λ (ks : List (List ℕ)). Rises ks) (sym (keys_of es ∙ ap (λ (xs : List Entry). map key xs) same))
      lawful.rises

  accepted : (header : po.Entry) → kept_header o es ≡ Some header → HasAcceptedCharset (first_form header.forms)
  accepted header is =
      let h = found is_header (kept_entries o es) header is in
      let has : Contains m (message_of header) = subst (λ (xs : List Entry). Contains xs (message_of header)) same
      (has_map message_of es header (member (is_kept o) es header h.0)) in
      let at : entry_at m [] ≡ Some (message_of header) = header_at m (message_of header) lawful.rises has
      (no_key header.context header.id h.1) in
      let text : header_text m ≡ Some (first_form header.forms) = ap (λ (e : Option Entry).
      option_map (λ x. first_form x.forms) e) at in
      subst (λ (t : Option (List ℕ)). IfSome t HasAcceptedCharset) text lawful.charset

  passes : (kind : LoadKind) (line : ℕ) → Fails o es kind line → ⊥
  passes Duplicate line h = key_apart h.before h.e h.after
      (subst (λ (xs : List po.Entry). Rises (map key_of xs)) h.split rising) h.again
  passes Charset line h = h.foreign (accepted h.header h.is)
  passes SystemDependent line h =
      let flag = flag_at h.before h.e h.after (subst (λ (xs : List po.Entry). AllByRecursion HasNoFlag xs) h.split
      (kept_flags (is_kept o) es flags)) in
      let on = h.holds.flagged in
      let not = flag.no_format in
      absurd (cc (on, not))
  passes NoRule line h = unchecked o off h.0
  passes BadRule line h = unchecked o off h.0
  passes FormCount line h = unchecked o off h.0
  passes (PluralRange n) line h = unchecked o off h.0
  passes FormatMismatch line h = unchecked o off h.0
  passes NewlineMismatch line h = unchecked o off h.0
  passes _ line h = absurd h

-- the text of a lawful map isn't refused
pub accepts : (escape : Bool) (m : List Entry) (o : Options) (kind : LoadKind) (line : ℕ) → IsLawful m
    → length (po_of escape m) ≤ max_text → o.checked ≡ false → ¬ Refuses (po_of escape m) o kind line
accepts escape m o kind line lawful short off refused = refuted kind refused
  where
    text : List ℕ
    text = po_of escape m

    told : Tells (po_of escape m) m
    told = tells escape m lawful short

    refuted : (k : LoadKind) → Refuses (po_of escape m) o k line → ⊥
    refuted TooLarge r = gives_or_refuses (po_of escape m) told.entries kinds.TooLarge line told.gives r
    refuted NotUtf8 r = gives_or_refuses (po_of escape m) told.entries kinds.NotUtf8 line told.gives r
    refuted BadEscape r = gives_or_refuses (po_of escape m) told.entries kinds.BadEscape line told.gives r
    refuted OpenString r = gives_or_refuses (po_of escape m) told.entries kinds.OpenString line told.gives r
    refuted BadWord r = gives_or_refuses (po_of escape m) told.entries kinds.BadWord line told.gives r
    refuted BadText r = gives_or_refuses (po_of escape m) told.entries kinds.BadText line told.gives r
    refuted BadOrder r = gives_or_refuses (po_of escape m) told.entries kinds.BadOrder line told.gives r
    refuted BadIndex r = gives_or_refuses (po_of escape m) told.entries kinds.BadIndex line told.gives r
    refuted k (others, gives, first) =
        let es : told.entries ≡ others = gives_one (po_of escape m) told.entries others told.gives gives in
        passes o told.entries m told.no_flags told.messages_are lawful off k line
        (subst (λ (xs : List po.Entry). Fails o xs k line) (sym es) first.holds)
