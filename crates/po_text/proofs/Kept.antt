-- The invariant of an entry's buffers.
use Rattle.po_text.proofs.Kit.{◌≡◌, ◌≢◌, ℕ, zero, suc, ◌+◌, ◌-◌, ◌<◌, ◌≤◌, Bool, get_or, true, false, List, [], ◌∷◌}
use Rattle.po_text.proofs.Kit.{◌++◌, length, take, drop, Option, None, Some, refl, sym, ap, ◌∙◌, subst, inl, inr, arith}
use Rattle.po_text.proofs.Kit.{append_assoc, length-append, ◌⊎◌, Result, Ok, Err, if◌then◌else◌, concat, Contains}
use Rattle.po_text.proofs.Kit.{AllByRecursion, append-nil, Contains-append_cases, Flags, Lines, IsLawful, Entry, Stage}
use Rattle.po_text.proofs.Kit.{ContextWord, ContextText, IdWord, IdText, PluralWord, PluralText, stage_view, Draft}
use Rattle.po_text.proofs.Kit.{draft_of, offsets, put_text, new_form, some_if}
use Rattle.std.proofs.Common.{add-one, zero-add, add-zero}
use Rattle.std.specs.Prelude.{OnOk, is_ok, slice_get, slice_index}
use Rattle.std.specs.declared.alloc.AllocError.{AllocError}
use Rattle.po_text.specs.declared.stages.Stage as code
use Rattle.po_text.specs.declared.stages.Stage.TheVariants as stages
use Rattle.std.proofs.Math.Seq.{take-append_seam, drop-append_seam}
use Rattle.po_text.specs.declared.buffer.EntryBuffer.TheInside.{Inside}
use Rattle.po_text.specs.Lawful.{IsLawfulIf, HasNoFourIf, IsLawfulTexts}
use Rattle.po_text.specs.Building.{first_or, with_bytes, add_form}
use Rattle.po_text.specs.Buffers.{cut_forms, entry_in, draft_in, IsWellBuilt, CanAddText}
use Rattle.po_text.proofs.Drafts.{same_entry}
use Rattle.po_text.proofs.Lawful.{lawful_nil, lawful_append}

-- ---- forms cut out of the bytes of all forms

end_of : (forms : List (List ℕ)) (k size : ℕ) → k + length (concat forms) ≡ size → first_or (offsets k forms) size ≡ k
end_of [] k size e = sym e ∙ add-zero k
end_of (f ∷ forms) k size e = refl

take_front : (xs ys : List ℕ) (k : ℕ) → k ≡ length xs → take k (xs ++ ys) ≡ xs
take_front xs ys k e = rw e (take-append_seam xs ys)

cut_behind : (front : List ℕ) (forms : List (List ℕ)) → cut_forms (front ++ concat forms) (offsets (length front) forms)
    ≡ forms
cut_behind front [] = refl
cut_behind front (f ∷ forms) =
    let flat : List ℕ = front ++ (f ++ concat forms) in
    let k = length front in
    let size : k + length f + length (concat forms) ≡ length flat = omega
    (arith, length-append front (f ++ concat forms), length-append f (concat forms)) in
    let end = end_of forms (k + length f) (length flat) size in
    let len : first_or (offsets (k + length f) forms) (length flat) - k ≡ length f = omega (arith, end) in
    let head : take (first_or (offsets (k + length f) forms) (length flat) - k) (drop k flat)
    ≡ f = rw (drop-append_seam front (f ++ concat forms)) (take_front f (concat forms) _ len) in
    let tail : cut_forms flat (offsets (k + length f) forms) ≡ forms
    = ap (λ (x : List ℕ). cut_forms x (offsets (k + length f) forms)) (sym (append_assoc front f (concat forms)))
    ∙ ap (λ (n : ℕ). cut_forms ((front ++ f) ++ concat forms) (offsets n forms)) (sym (length-append front f))
    ∙ cut_behind (front ++ f) forms in
    cc (head, tail)

pub cut_again : (forms : List (List ℕ)) (flat starts : List ℕ) → flat ≡ concat forms → starts ≡ offsets 0 forms
    → cut_forms flat starts ≡ forms
cut_again forms flat starts e o = rw (e, o) (cut_behind [] forms)

-- ---- buffers

pub entry_is : (b : Inside) (e : Entry) → draft_in b ≡ draft_of e → entry_in b ≡ e
entry_is b e same =
    same_entry (entry_in b) e (ap (λ (d : Draft). d.lines.entry) same) (ap (λ (d : Draft). d.lines.form) same)
    (ap (λ (d : Draft). d.flags.fuzzy) same) (ap (λ (d : Draft). d.flags.c_format) same)
    (ap (λ (d : Draft). d.flags.formats) same) (ap (λ (d : Draft). d.context) same) (ap (λ (d : Draft). d.id) same)
    (ap (λ (d : Draft). d.plural) same) (cut_again e.forms b.forms.items b.starts.items
    (ap (λ (d : Draft). d.flat) same) (ap (λ (d : Draft). d.starts) same))

pub is_kept : (b : Inside) (e : Entry) → draft_in b ≡ draft_of e → IsLawfulTexts e → IsWellBuilt b
is_kept b e same lawful =
    let is = entry_is b e same in
    record { laid_out = same ∙ ap draft_of (sym is); lawful = subst IsLawfulTexts (sym is) lawful }

-- well-built buffers hold the draft of their entry
pub draft_is : (b : Inside) → IsWellBuilt b → draft_of (entry_in b) ≡ draft_in b
draft_is b h = sym h.laid_out

-- ---- no texts

none_lawful : (b : Bool) → IsLawfulIf (some_if b [])
none_lawful true = lawful_nil
none_lawful false = tt

none_free : (b : Bool) → HasNoFourIf (some_if b [])
none_free true = λ (k, lt, is). absurd (omega (arith, lt))
none_free false = tt

pub begun_lawful : (line : ℕ) (flags : Flags) (b : Bool) → IsLawfulTexts
    (record {
      line = line;
      form_line = 0;
      fuzzy = flags.fuzzy;
      c_format = flags.c_format;
      formats = flags.formats;
      context = some_if b [];
      id = [];
      plural =
          None;
      forms = [];
    })
begun_lawful line flags b = record {
  context = none_lawful b;
  context_free = none_free b;
  id = lawful_nil;
  id_free = λ
      (k, lt, is). absurd (omega (arith, lt));
  plural = tt;
  forms = tt;
}

-- ---- one more string

grown_lawful : (o : Option (List ℕ)) (bytes : List ℕ) → IsLawfulIf o → IsLawful bytes → IsLawfulIf (with_bytes o bytes)
grown_lawful None bytes h l = tt
grown_lawful (Some old) bytes h l = lawful_append old bytes h l

free_append : (a b : List ℕ) → ¬ Contains a 4 → ¬ Contains b 4 → ¬ Contains (a ++ b) 4
free_append a b p q m = elim (Contains-append_cases a b 4 m) [ inl here ↦ p here | inr there ↦ q there ]

grown_free : (o : Option (List ℕ)) (bytes : List ℕ) → HasNoFourIf o → ¬ Contains bytes 4
    → HasNoFourIf (with_bytes o bytes)
grown_free None bytes h l = tt
grown_free (Some old) bytes h l = free_append old bytes h l

-- the last form with these bytes appended
abbrev add_last : List (List ℕ) → List ℕ → List (List ℕ)
add_last [] bytes = []
add_last (f ∷ []) bytes = (f ++ bytes) ∷ []
add_last (f ∷ g ∷ forms) bytes = f ∷ add_last (g ∷ forms) bytes

concat-add_last : (f : List ℕ) (forms : List (List ℕ)) (bytes : List ℕ) → concat (f ∷ forms) ++ bytes
    ≡ concat (add_last (f ∷ forms) bytes)
concat-add_last f [] bytes = ap (λ (x : List ℕ). x ++ bytes) (append-nil f) ∙ sym (append-nil (f ++ bytes))
concat-add_last f (g ∷ forms) bytes = append_assoc f (concat (g ∷ forms)) bytes
    ∙ ap (λ (x : List ℕ). f ++ x) (concat-add_last g forms bytes)

offsets-add_last : (k : ℕ) (forms : List (List ℕ)) (bytes : List ℕ) → offsets k forms ≡ offsets k (add_last forms bytes)
offsets-add_last k [] bytes = refl
offsets-add_last k (f ∷ []) bytes = refl
offsets-add_last k (f ∷ g ∷ forms) bytes = ap (λ (x : List ℕ). k ∷ x)
    (offsets-add_last (k + length f) (g ∷ forms) bytes)

last_lawful : (forms : List (List ℕ)) (bytes : List ℕ) → AllByRecursion IsLawful forms → IsLawful bytes
    → AllByRecursion IsLawful (add_last forms bytes)
last_lawful [] bytes h l = tt
last_lawful (f ∷ []) bytes h l = (lawful_append f bytes h.0 l, tt)
last_lawful (f ∷ g ∷ forms) bytes h l = (h.0, last_lawful (g ∷ forms) bytes h.1 l)

-- there is a lawful entry of this draft
abbrev pub Becomes : Draft → Type 0
Becomes d = (e : Entry) × (d ≡ draft_of e) × IsLawfulTexts e

form_added : (e : Entry) (bytes : List ℕ) (forms : List (List ℕ)) → e.forms ≡ forms → IsLawful bytes
    → offsets 0 forms ≢ [] → IsLawfulTexts e → Becomes (add_form (draft_of e) bytes)
form_added e bytes [] is l some h = absurd (some refl)
form_added e bytes (f ∷ forms) is l some h = (
  record {
    line = e.line;
    form_line = e.form_line;
    fuzzy = e.fuzzy;
    c_format = e.c_format;
    formats = e.formats;
    context = e.context;
    id = e.id;
    plural = e.plural;
    forms = add_last (f ∷ forms) bytes;
  },
  rw is (
      ap (λ (x : List ℕ). record {
        lines = record { entry = e.line; form = e.form_line };
        flags = record { fuzzy = e.fuzzy; c_format = e.c_format; formats = e.formats };
        context =
            e.context;
        id = e.id;
        plural = e.plural;
        flat = x;
        starts = offsets 0 (f ∷ forms);
      })
      (concat-add_last f forms bytes)
      ∙ ap (λ (x : List ℕ). record {
        lines = record { entry = e.line; form = e.form_line };
        flags = record { fuzzy = e.fuzzy; c_format = e.c_format; formats = e.formats };
        context =
            e.context;
        id = e.id;
        plural = e.plural;
        flat = concat (add_last (f ∷ forms) bytes);
        starts = x;
      })
      (offsets-add_last 0 (f ∷ forms) bytes)),
  record {
    context = h.context;
    context_free = h.context_free;
    id = h.id;
    id_free = h.id_free;
    plural = h.plural;
    forms
        = last_lawful (f ∷ forms) bytes (subst (λ (x : List (List ℕ)). AllByRecursion IsLawful x) is h.forms) l;
  },
)

context_added : (e : Entry) (bytes : List ℕ) → IsLawful bytes → ¬ Contains bytes 4 → IsLawfulTexts e
    → Becomes (put_text ContextWord bytes (draft_of e))
context_added e bytes l free h = (
  record {
    line = e.line;
    form_line = e.form_line;
    fuzzy = e.fuzzy;
    c_format = e.c_format;
    formats = e.formats;
    context = with_bytes e.context bytes;
    id = e.id;
    plural =
        e.plural;
    forms = e.forms;
  },
  refl,
  record {
    context = grown_lawful e.context bytes h.context l;
    context_free = grown_free e.context bytes h.context_free
        free;
    id = h.id;
    id_free = h.id_free;
    plural = h.plural;
    forms = h.forms;
  },
)

id_added : (e : Entry) (bytes : List ℕ) → IsLawful bytes → ¬ Contains bytes 4 → IsLawfulTexts e
    → Becomes (put_text IdWord bytes (draft_of e))
id_added e bytes l free h = (
  record {
    line = e.line;
    form_line = e.form_line;
    fuzzy = e.fuzzy;
    c_format = e.c_format;
    formats = e.formats;
    context = e.context;
    id = e.id
        ++ bytes;
    plural = e.plural;
    forms = e.forms;
  },
  refl,
  record {
    context = h.context;
    context_free = h.context_free;
    id = lawful_append e.id bytes h.id l;
    id_free =
        free_append e.id bytes h.id_free free;
    plural = h.plural;
    forms = h.forms;
  },
)

plural_added : (e : Entry) (bytes : List ℕ) → IsLawful bytes → IsLawfulTexts e
    → Becomes (put_text PluralWord bytes (draft_of e))
plural_added e bytes l h = (
  record {
    line = e.line;
    form_line = e.form_line;
    fuzzy = e.fuzzy;
    c_format = e.c_format;
    formats = e.formats;
    context = e.context;
    id = e.id;
    plural = with_bytes
        e.plural bytes;
    forms = e.forms;
  },
  refl,
  record {
    context = h.context;
    context_free = h.context_free;
    id = h.id;
    id_free = h.id_free;
    plural = grown_lawful
        e.plural bytes h.plural l;
    forms = h.forms;
  },
)

pub text_added : (p : Stage) (e : Entry) (bytes : List ℕ) → IsLawful bytes → CanAddText p bytes (draft_of e)
    → IsLawfulTexts e → Becomes (put_text p bytes (draft_of e))
text_added ContextWord e bytes l can h = context_added e bytes l can h
text_added ContextText e bytes l can h = context_added e bytes l can h
text_added IdWord e bytes l can h = id_added e bytes l can h
text_added IdText e bytes l can h = id_added e bytes l can h
text_added PluralWord e bytes l can h = plural_added e bytes l h
text_added PluralText e bytes l can h = plural_added e bytes l h
text_added _ e bytes l can h = form_added e bytes e.forms refl l can h

-- ---- one more token

offsets-new : (k : ℕ) (forms : List (List ℕ)) → offsets k forms ++ ((k + length (concat forms)) ∷ [])
    ≡ offsets k (forms ++ ([] ∷ []))
offsets-new k [] = ap (λ (n : ℕ). n ∷ []) (add-zero k)
offsets-new k (f ∷ forms) =
    let at : k + length (f ++ concat forms) ≡ k + length f + length (concat forms) = omega
    (arith, length-append f (concat forms)) in
    ap (λ (n : ℕ). k ∷ (offsets (k + length f) forms ++ (n ∷ []))) at
    ∙ ap (λ (x : List ℕ). k ∷ x) (offsets-new (k + length f) forms)

concat-new : (forms : List (List ℕ)) → concat forms ≡ concat (forms ++ ([] ∷ []))
concat-new [] = refl
concat-new (f ∷ forms) = ap (λ (x : List ℕ). f ++ x) (concat-new forms)

new_lawful : (forms : List (List ℕ)) → AllByRecursion IsLawful forms → AllByRecursion IsLawful (forms ++ ([] ∷ []))
new_lawful [] h = (lawful_nil, tt)
new_lawful (f ∷ forms) h = (h.0, new_lawful forms h.1)

pub form_begun : (lines : Lines) (e : Entry) → IsLawfulTexts e → Becomes (new_form lines (draft_of e))
form_begun lines e h = (
  record {
    line = lines.entry;
    form_line = lines.form;
    fuzzy = e.fuzzy;
    c_format = e.c_format;
    formats = e.formats;
    context = e.context;
    id = e.id;
    plural = e.plural;
    forms = e.forms ++ ([] ∷ []);
  },
  ap (λ (x : List ℕ). record {
    lines = lines;
    flags = record { fuzzy = e.fuzzy; c_format = e.c_format; formats = e.formats };
    context =
        e.context;
    id = e.id;
    plural = e.plural;
    flat = x;
    starts = offsets 0 e.forms ++ (length (concat e.forms) ∷ []);
  })
      (concat-new e.forms)
      ∙ ap (λ (x : List ℕ). record {
        lines = lines;
        flags = record { fuzzy = e.fuzzy; c_format = e.c_format; formats = e.formats };
        context =
            e.context;
        id = e.id;
        plural = e.plural;
        flat = concat (e.forms ++ ([] ∷ []));
        starts = x;
      })
      (ap (λ (n : ℕ). offsets 0 e.forms ++ (n ∷ [])) (sym (zero-add (length (concat e.forms))))
      ∙ offsets-new 0 e.forms),
  record {
    context = h.context;
    context_free = h.context_free;
    id = h.id;
    id_free = h.id_free;
    plural = h.plural;
    forms
        = new_lawful e.forms h.forms;
  },
)

-- buffers whose draft became this one
pub kept_as : (b : Inside) (d : Draft) → draft_in b ≡ d → Becomes d → IsWellBuilt b
kept_as b d is (e, same, lawful) = is_kept b e (is ∙ same) lawful

-- ---- buffers that grow

-- the field that grew, or didn't if memory ran out
pub grew : (ok : Bool) (new old bytes : List ℕ) (make : List ℕ → Draft) (target : Draft) → make (old ++ bytes) ≡ target
    → new ≡ (if ok then old ++ bytes else old) → make new ≡ (if ok then target else make old)
grew true new old bytes make target at e = ap make e ∙ at
grew false new old bytes make target at e = ap make e

abbrev pub Grows : Bool → Draft → Draft → Draft → Type 0
Grows ok new old target = new ≡ (if ok then target else old)

-- the draft of well-built buffers that hold this entry
pub draft_of_view : (b : Inside) (e : Entry) → entry_in b ≡ e → IsWellBuilt b → draft_in b ≡ draft_of e
draft_of_view b e view h = h.laid_out ∙ ap draft_of view

lawful_view : (b : Inside) (e : Entry) → entry_in b ≡ e → IsWellBuilt b → IsLawfulTexts e
lawful_view b e view h = subst IsLawfulTexts view h.lawful

pub text_kept : (ok : Bool) (p : Stage) (old new : Inside) (e : Entry) (bytes : List ℕ) → entry_in old ≡ e
    → IsWellBuilt old
    → IsLawful bytes → CanAddText p bytes (draft_of e) → Grows ok (draft_in new) (draft_in old)
    (put_text p bytes (draft_in old)) → IsWellBuilt new
text_kept true p old new e bytes view h l can is = kept_as new (put_text p bytes (draft_of e))
    (is ∙ ap (put_text p bytes) (draft_of_view old e view h)) (text_added p e bytes l can (lawful_view old e view h))
text_kept false p old new e bytes view h l can is = is_kept new e (is ∙ draft_of_view old e view h)
    (lawful_view old e view h)

pub text_put : (r : Result (Unit {0}) AllocError) (p : Stage) (old new : Inside) (e : Entry) (bytes : List ℕ)
    → entry_in old ≡ e → IsWellBuilt old → IsWellBuilt new → Grows (is_ok r) (draft_in new) (draft_in old)
    (put_text p bytes (draft_in old)) → OnOk r (draft_of (entry_in new) ≡ put_text p bytes (draft_of e))
text_put (Ok u) p old new e bytes view h h' is = draft_is new h' ∙ is
    ∙ ap (put_text p bytes) (draft_of_view old e view h)
text_put (Err x) p old new e bytes view h h' is = tt

grown_if : (b : Bool) (old bytes : List ℕ) → some_if b (old ++ bytes) ≡ with_bytes (some_if b old) bytes
grown_if true old bytes = refl
grown_if false old bytes = refl

-- each text of an entry, by the stage before the string
pub context_grows : (p : code.Stage) (k : ℕ) (ok : Bool) (new bytes : List ℕ) (b : Inside) → (p ≡ stages.ContextWord)
    ⊎ (p ≡ stages.ContextText) → new ≡ (if ok then b.context.items ++ bytes else b.context.items)
    → Grows ok (record {
      lines = b.lines;
      flags = b.flags;
      context = some_if b.has_context new;
      id = b.id.items;
      plural =
          some_if b.has_plural b.plural.items;
      flat = b.forms.items;
      starts = b.starts.items;
    }) (draft_in b)
    (put_text (stage_view p k) bytes (draft_in b))
context_grows p k ok new bytes b is e =
    let make : List ℕ → Draft = λ x. record {
      lines = b.lines;
      flags = b.flags;
      context = some_if b.has_context x;
      id =
          b.id.items;
      plural = some_if b.has_plural b.plural.items;
      flat = b.forms.items;
      starts = b.starts.items;
    } in
    let at : make (b.context.items ++ bytes) ≡ put_text ContextWord bytes (draft_in b)
    = ap (λ (x : Option (List ℕ)). record {
      lines = b.lines;
      flags = b.flags;
      context = x;
      id = b.id.items;
      plural =
          some_if b.has_plural b.plural.items;
      flat = b.forms.items;
      starts = b.starts.items;
    })
    (grown_if b.has_context b.context.items bytes) in
    elim is [
      | inl q ↦ grew ok new b.context.items bytes make (put_text (stage_view p k) bytes (draft_in b))
          (at ∙ ap (λ (x : code.Stage). put_text (stage_view x k) bytes (draft_in b)) (sym q)) e
      | inr q ↦ grew ok new b.context.items bytes make (put_text (stage_view p k) bytes (draft_in b))
          (at ∙ ap (λ (x : code.Stage). put_text (stage_view x k) bytes (draft_in b)) (sym q)) e
    ]

pub id_grows : (p : code.Stage) (k : ℕ) (ok : Bool) (new bytes : List ℕ) (b : Inside) → (p ≡ stages.IdWord)
    ⊎ (p ≡ stages.IdText) → new ≡ (if ok then b.id.items ++ bytes else b.id.items)
    → Grows ok (record {
      lines = b.lines;
      flags = b.flags;
      context = some_if b.has_context b.context.items;
      id = new;
      plural = some_if b.has_plural b.plural.items;
      flat = b.forms.items;
      starts = b.starts.items;
    }) (draft_in b)
    (put_text (stage_view p k) bytes (draft_in b))
id_grows p k ok new bytes b is e =
    let make : List ℕ → Draft = λ x. record {
      lines = b.lines;
      flags = b.flags;
      context = some_if b.has_context
          b.context.items;
      id = x;
      plural = some_if b.has_plural b.plural.items;
      flat = b.forms.items;
      starts =
          b.starts.items;
    } in
    elim is [
      | inl q ↦ grew ok new b.id.items bytes make (put_text (stage_view p k) bytes (draft_in b))
          (ap (λ (x : code.Stage). put_text (stage_view x k) bytes (draft_in b)) (sym q)) e
      | inr q ↦ grew ok new b.id.items bytes make (put_text (stage_view p k) bytes (draft_in b))
          (ap (λ (x : code.Stage). put_text (stage_view x k) bytes (draft_in b)) (sym q)) e
    ]

pub plural_grows : (p : code.Stage) (k : ℕ) (ok : Bool) (new bytes : List ℕ) (b : Inside) → (p ≡ stages.PluralWord)
    ⊎ (p ≡ stages.PluralText) → new ≡ (if ok then b.plural.items ++ bytes else b.plural.items)
    → Grows ok (record {
      lines = b.lines;
      flags = b.flags;
      context = some_if b.has_context b.context.items;
      id =
          b.id.items;
      plural = some_if b.has_plural new;
      flat = b.forms.items;
      starts = b.starts.items;
    }) (draft_in b)
    (put_text (stage_view p k) bytes (draft_in b))
plural_grows p k ok new bytes b is e =
    let make : List ℕ → Draft = λ x. record {
      lines = b.lines;
      flags = b.flags;
      context = some_if b.has_context
          b.context.items;
      id = b.id.items;
      plural = some_if b.has_plural x;
      flat = b.forms.items;
      starts = b.starts.items;
    } in
    let at : make (b.plural.items ++ bytes) ≡ put_text PluralWord bytes (draft_in b)
    = ap (λ (x : Option (List ℕ)). record {
      lines = b.lines;
      flags = b.flags;
      context = some_if b.has_context
          b.context.items;
      id = b.id.items;
      plural = x;
      flat = b.forms.items;
      starts = b.starts.items;
    })
    (grown_if b.has_plural b.plural.items bytes) in
    elim is [
      | inl q ↦ grew ok new b.plural.items bytes make (put_text (stage_view p k) bytes (draft_in b))
          (at ∙ ap (λ (x : code.Stage). put_text (stage_view x k) bytes (draft_in b)) (sym q)) e
      | inr q ↦ grew ok new b.plural.items bytes make (put_text (stage_view p k) bytes (draft_in b))
          (at ∙ ap (λ (x : code.Stage). put_text (stage_view x k) bytes (draft_in b)) (sym q)) e
    ]

form_stage : (p : code.Stage) (k : ℕ) (bytes : List ℕ) (d : Draft) → p ≢ stages.ContextWord → p ≢ stages.ContextText
    → p ≢ stages.IdWord → p ≢ stages.IdText → p ≢ stages.PluralWord → p ≢ stages.PluralText → add_form d bytes
    ≡ put_text (stage_view p k) bytes d
form_stage stages.ContextWord k bytes d c c' i i' q q' = absurd (c refl)
form_stage stages.ContextText k bytes d c c' i i' q q' = absurd (c' refl)
form_stage stages.IdWord k bytes d c c' i i' q q' = absurd (i refl)
form_stage stages.IdText k bytes d c c' i i' q q' = absurd (i' refl)
form_stage stages.PluralWord k bytes d c c' i i' q q' = absurd (q refl)
form_stage stages.PluralText k bytes d c c' i i' q q' = absurd (q' refl)
form_stage _ k bytes d c c' i i' q q' = refl

pub form_grows : (p : code.Stage) (k : ℕ) (ok : Bool) (new bytes : List ℕ) (b : Inside) → p ≢ stages.ContextWord
    → p ≢ stages.ContextText → p ≢ stages.IdWord → p ≢ stages.IdText → p ≢ stages.PluralWord → p ≢ stages.PluralText
    → new ≡ (if ok then b.forms.items ++ bytes else b.forms.items)
    → Grows ok (record {
      lines = b.lines;
      flags = b.flags;
      context = some_if b.has_context b.context.items;
      id =
          b.id.items;
      plural = some_if b.has_plural b.plural.items;
      flat = new;
      starts = b.starts.items;
    }) (draft_in b)
    (put_text (stage_view p k) bytes (draft_in b))
form_grows p k ok new bytes b c c' i i' q q' e =
    let make : List ℕ → Draft = λ x. record {
      lines = b.lines;
      flags = b.flags;
      context = some_if b.has_context
          b.context.items;
      id = b.id.items;
      plural = some_if b.has_plural b.plural.items;
      flat = x;
      starts =
          b.starts.items;
    } in
    grew ok new b.forms.items bytes make (put_text (stage_view p k) bytes (draft_in b))
    (form_stage p k bytes (draft_in b) c c' i i' q q') e

pub form_kept : (lines : Lines) (b new : Inside) (e : Entry) → entry_in b ≡ e → IsWellBuilt b → draft_in new
    ≡ new_form lines (draft_in b) → IsWellBuilt new
form_kept lines b new e view h is = kept_as new (new_form lines (draft_of e))
    (is ∙ ap (new_form lines) (draft_of_view b e view h)) (form_begun lines e (lawful_view b e view h))

pub form_put : (lines : Lines) (b new : Inside) (e : Entry) → entry_in b ≡ e → IsWellBuilt b → IsWellBuilt new
    → draft_in new ≡ new_form lines (draft_in b) → draft_of (entry_in new) ≡ new_form lines (draft_of e)
form_put lines b new e view h h' is = draft_is new h' ∙ is ∙ ap (new_form lines) (draft_of_view b e view h)

-- ---- one form of several

length-offsets : (k : ℕ) (forms : List (List ℕ)) → length (offsets k forms) ≡ length forms
length-offsets k [] = refl
length-offsets k (f ∷ forms) = ap suc (length-offsets (k + length f) forms)

pub count_is : (b : Inside) (e : Entry) → entry_in b ≡ e → IsWellBuilt b → length b.starts.items ≡ length e.forms
count_is b e view h = ap (λ (d : Draft). length d.starts) (draft_of_view b e view h) ∙ length-offsets 0 e.forms

-- where the form with this index is
pub record FormAt (flat starts : List ℕ) (forms : List (List ℕ)) (k : ℕ) : Type 0 where
  pub form : List ℕ
  pub is : slice_get forms k ≡ Some form
  pub end_is : first_or (drop (k + 1) starts) (length flat) ≡ get_or starts k 0 + length form
  pub fits : get_or starts k 0 + length form ≤ length flat
  pub cut : take (length form) (drop (get_or starts k 0) flat) ≡ form
  pub lawful : AllByRecursion IsLawful forms → IsLawful form

form_behind : (front : List ℕ) (forms : List (List ℕ)) (k : ℕ) → k < length forms
    → FormAt (front ++ concat forms) (offsets (length front) forms) forms k
form_behind front [] k lt = absurd (omega (arith, lt))
form_behind front (f ∷ forms) zero lt =
    let flat : List ℕ = front ++ (f ++ concat forms) in
    let size : length front + length f + length (concat forms)
    ≡ length flat = omega (arith, length-append front (f ++ concat forms), length-append f (concat forms)) in
    record {
      form = f;
      is = refl;
      end_is = end_of forms (length front + length f) (length flat) size;
      fits = omega (arith, size);
      cut = rw (drop-append_seam front (f ++ concat forms)) (take_front f (concat forms) (length f) refl);
      lawful = λ all. all.0;
    }
form_behind front (f ∷ forms) (suc k) lt =
    let flat : List ℕ = front ++ (f ++ concat forms) in
    let same : (front ++ f) ++ concat forms ≡ flat = append_assoc front f (concat forms) in
    let at : offsets (length (front ++ f)) forms ≡ offsets (length front + length f) forms = ap
    (λ (n : ℕ). offsets n forms) (length-append front f) in
    let h = form_behind (front ++ f) forms k (omega (arith, lt)) in
    let h' : FormAt flat (offsets (length front + length f) forms) forms k = subst
    (λ (x : List ℕ). FormAt x (offsets (length front + length f) forms) forms k) same
    (subst (λ (x : List ℕ). FormAt ((front ++ f) ++ concat forms) x forms k) at h) in
    record {
      form = h'.form;
      is = h'.is;
      end_is = ap (λ (n : ℕ). first_or (drop n (offsets (length front) (f ∷ forms))) (length flat)) (add-one (suc k))
          ∙ ap (λ (n : ℕ). first_or (drop n (offsets (length front + length f) forms)) (length flat)) (sym (add-one k))
          ∙ h'.end_is;
      fits = h'.fits;
      cut = h'.cut;
      lawful = λ all. h'.lawful all.1;
    }

pub form_at : (b : Inside) (e : Entry) (k : ℕ) → entry_in b ≡ e → IsWellBuilt b → k < length e.forms
    → FormAt b.forms.items b.starts.items e.forms k
form_at b e k view h lt =
    let d = draft_of_view b e view h in
    let at = form_behind [] e.forms k lt in
    subst (λ (x : List ℕ). FormAt x b.starts.items e.forms k) (sym (ap (λ (d : Draft). d.flat) d))
    (subst (λ (x : List ℕ). FormAt (concat e.forms) x e.forms k) (sym (ap (λ (d : Draft). d.starts) d)) at)

pub forms_lawful : (b : Inside) (e : Entry) → entry_in b ≡ e → IsWellBuilt b → AllByRecursion IsLawful e.forms
forms_lawful b e view h = (lawful_view b e view h).forms

-- one more form was copied
pub take_more : {A : Type 0} (xs : List A) (k : ℕ) (x : A) → slice_get xs k ≡ Some x → take k xs ++ (x ∷ [])
    ≡ take (suc k) xs
take_more [] k x e = absurd (cc e)
take_more (y ∷ xs) zero x e = let same : y ≡ x = cc e in ap (λ (z : _). z ∷ []) (sym same)
take_more (y ∷ xs) (suc k) x e = ap (λ (zs : List _). y ∷ zs) (take_more xs k x e)

-- where the form starts and ends, as it was computed
pub record CutAt (flat : List ℕ) (start end : ℕ) (form : List ℕ) : Type 0 where
  pub rises : start ≤ end
  pub within : end ≤ length flat
  pub cut : take (end - start) (drop start flat) ≡ form

pub cut_at : (flat starts flat' starts' : List ℕ) (forms : List (List ℕ)) (k start end size : ℕ)
    → (h : FormAt flat starts forms k) → flat' ≡ flat → starts' ≡ starts → start ≡ slice_index starts' k → end
    ≡ first_or (drop (k + 1) starts') size → size ≡ length flat → CutAt flat' start end h.form
cut_at flat starts flat' starts' forms k start end size h f s at up to =
    let first : start ≡ get_or starts k 0 = at ∙ ap (λ (x : List ℕ). slice_index x k) s in
    let last : end ≡ get_or starts k 0 + length h.form = up ∙ ap (λ (x : List ℕ). first_or (drop (k + 1) x) size) s
    ∙ ap (λ (n : ℕ). first_or (drop (k + 1) starts) n) to ∙ h.end_is in
    let len : end - start ≡ length h.form = omega (arith, first, last) in
    record {
      rises = omega (arith, first, last);
      within = omega (arith, last, h.fits, ap (λ (x : List ℕ). length x) f);
      cut = ap (λ (n : ℕ). take n (drop start flat')) len ∙ ap (λ (n : ℕ). take (length h.form) (drop n flat')) first
          ∙ ap (λ (x : List ℕ). take (length h.form) (drop (get_or starts k 0) x)) f ∙ h.cut;
    }
