-- The entries built from the lexemes of derived entries are those entries.
use Rattle.po_text.proofs.Kit.{◌≡◌, ℕ, ◌+◌, false, List, [], ◌∷◌, ◌++◌, map, length, Option, Some, None, refl, sym, ap}
use Rattle.po_text.proofs.Kit.{◌∙◌, subst, append_assoc, length-append, option_map, concat, flat_map, Contains}
use Rattle.po_text.proofs.Kit.{AllByRecursion, append-nil, Flags, Lines, Chain, Token, Context, Id, Plural, Str, Number}
use Rattle.po_text.proofs.Kit.{Open, Close, Text, Mark, Lexeme, Strings, Part, PlainPart, PluralPart, Derivation, texts}
use Rattle.po_text.proofs.Kit.{context_tokens, form_tokens, part_tokens, tokens_of, IsOneOrMore, IsKeyText}
use Rattle.po_text.proofs.Kit.{IsLawfulPart, IsLawfulEntry, Entry, plural_of, forms_of, EntryAt, Derives, all_tokens}
use Rattle.po_text.proofs.Kit.{Stage, Start, ContextWord, ContextText, IdWord, IdText, FormWord, FormText, PluralWord}
use Rattle.po_text.proofs.Kit.{PluralText, IndexOpen, IndexNumber, IndexClose, IndexedWord, IndexedText, IsBoundary}
use Rattle.po_text.proofs.Kit.{has_four, key_text, flags_over, no_flags, Draft, offsets, draft_of, begin, new_form}
use Rattle.po_text.proofs.Kit.{put_text, State, at_state, drafts_at, opens, after, start, Contains-append_left}
use Rattle.po_text.proofs.Kit.{Contains-append_right, eq-eqb}
use Rattle.std.proofs.Common.{zero-add}
use Rattle.po_text.specs.Entries.{IsLawfulContext, joined_option, entry_of, first_form_line, is_form_word}
use Rattle.po_text.specs.Stages.{step}
use Rattle.po_text.specs.Building.{with_bytes, add_context, add_id, add_plural, add_form, new_plural, feed_at, feed}
use Rattle.po_text.specs.Building.{feeds}
use Rattle.po_text.proofs.FlagLemmas.{flags_are, flags_over-append}
use Rattle.po_text.proofs.Completes.{derived}
use Rattle.po_text.proofs.Grammar.{run, no_four_here}

-- ---- feeding

pub feeds-append : (o : Option State) (xs ys : List Lexeme) → feeds o (xs ++ ys) ≡ feeds (feeds o xs) ys
feeds-append o [] ys = refl
feeds-append o (x ∷ xs) ys = feeds-append (feed o x) xs ys

pub feeds-over : (o r q : Option State) (xs ys : List Lexeme) → feeds o xs ≡ r → feeds r ys ≡ q → feeds o (xs ++ ys) ≡ q
feeds-over o r q xs ys e f = feeds-append o xs ys ∙ ap (λ (x : Option State). feeds x ys) e ∙ f

pub feeds-none : (xs : List Lexeme) → feeds None xs ≡ None
feeds-none [] = refl
feeds-none (x ∷ xs) = feeds-none xs

-- one token
token_feed : (s s' : State) (l : Lexeme) (ls : List Lexeme) (t : Token) → l.token ≡ t → feed_at s l.marks l.line t
    ≡ Some s' → feeds (Some s) (l ∷ ls) ≡ feeds (Some s') ls
token_feed s s' l ls t e f = ap (λ (o : Option State). feeds o ls)
    (ap (λ (x : Token). feed_at s l.marks l.line x) e ∙ f)

-- ---- flags

abbrev pub flags_through : Flags → List Lexeme → Flags
flags_through f [] = f
flags_through f (l ∷ ls) = flags_through (flags_over f l.marks) ls

flags_through-append : (f : Flags) (xs ys : List Lexeme) → flags_through f (xs ++ ys)
    ≡ flags_through (flags_through f xs) ys
flags_through-append f [] ys = refl
flags_through-append f (x ∷ xs) ys = flags_through-append (flags_over f x.marks) xs ys

flags_through_marks : (f : Flags) (ls : List Lexeme) → flags_through f ls
    ≡ flags_over f (flat_map (λ (l : Lexeme). l.marks) ls)
flags_through_marks f [] = refl
flags_through_marks f (l ∷ ls) = flags_through_marks (flags_over f l.marks) ls
    ∙ sym (flags_over-append f l.marks (flat_map (λ (x : Lexeme). x.marks) ls))

-- ---- cutting lexemes as their tokens are cut

pub split_tokens : (ls : List Lexeme) (xs ys : List Token) → all_tokens ls ≡ xs ++ ys → (us bs : List Lexeme)
    × (ls ≡ us ++ bs) × (all_tokens us ≡ xs) × (all_tokens bs ≡ ys)
split_tokens ls [] ys e = ([], ls, refl, refl, e)
split_tokens [] (x ∷ xs) ys e = absurd (cc e)
split_tokens (l ∷ ls) (x ∷ xs) ys e =
    let head : l.token ≡ x = cc e in
    let (us, bs, is, front, back) = split_tokens ls xs ys (cc e) in
    (l ∷ us, bs, cc is, cc (head, front), back)

-- ---- strings

-- how strings are added at a stage
record Adds (p q : Stage) (add : Draft → List ℕ → Draft) (Good : List ℕ → Type 0) : Type 0 where
  here : (b : List ℕ) → Good b → step p (Text b) ≡ Some q
  puts : (b : List ℕ) (d : Draft) → put_text p b d ≡ add d b

record IsAdder (add : Draft → List ℕ → Draft) : Type 0 where
  nil : (d : Draft) → add d [] ≡ d
  more : (d : Draft) (a b : List ℕ) → add (add d a) b ≡ add d (a ++ b)

one_text : (p q : Stage) (add : Draft → List ℕ → Draft) (Good : List ℕ → Type 0) → Adds p q add Good
    → (l : Lexeme) (ls : List Lexeme) (b : List ℕ) (done : List Draft) (d : Draft) (f : Flags) (k : ℕ) → l.token
    ≡ Text b → Good b
    → feeds (Some (at_state p done d f k)) (l ∷ ls) ≡ feeds (Some (at_state q done (add d b) (flags_over f l.marks) k))
    ls
one_text p q add Good a l ls b done d f k e good =
    token_feed (at_state p done d f k) (at_state q done (add d b) (flags_over f l.marks) k) l ls (Text b) e
    (ap (λ (o : Option Stage). option_map (λ (x : Stage). at_state x done (put_text p b d) (flags_over f l.marks) k) o)
    (a.here b good)
    ∙ ap (λ (x : Draft). Some (at_state q done x (flags_over f l.marks) k)) (a.puts b d))

texts_feed : (p : Stage) (add : Draft → List ℕ → Draft) (Good : List ℕ → Type 0) → Adds p p add Good → IsAdder add
    → (ls : List Lexeme) (parts : Strings) (done : List Draft) (d : Draft) (f : Flags) (k : ℕ) → all_tokens ls
    ≡ texts parts → AllByRecursion Good parts
    → feeds (Some (at_state p done d f k)) ls ≡ Some (at_state p done (add d (concat parts)) (flags_through f ls) k)
texts_feed p add Good a adder [] [] done d f k e good = ap (λ (x : Draft). Some (at_state p done x f k))
    (sym (adder.nil d))
texts_feed p add Good a adder (l ∷ ls) (b ∷ parts) done d f k e good =
    one_text p p add Good a l ls b done d f k (cc e) good.0
    ∙ texts_feed p add Good a adder ls parts done (add d b) (flags_over f l.marks) k (cc e) good.1
    ∙ ap (λ (x : Draft). Some (at_state p done x (flags_through (flags_over f l.marks) ls) k))
    (adder.more d b (concat parts))
texts_feed p add Good a adder _ _ done d f k e good = absurd (cc e)

some_feed : (p q : Stage) (add : Draft → List ℕ → Draft) (Good : List ℕ → Type 0) → Adds p q add Good
    → Adds q q add Good → IsAdder add → (ls : List Lexeme) (parts : Strings) (done : List Draft) (d : Draft) (f : Flags)
    (k : ℕ) → all_tokens ls ≡ texts parts → IsOneOrMore parts → AllByRecursion Good parts
    → feeds (Some (at_state p done d f k)) ls ≡ Some (at_state q done (add d (concat parts)) (flags_through f ls) k)
some_feed p q add Good a a' adder ls [] done d f k e some good = absurd (some refl)
some_feed p q add Good a a' adder [] (b ∷ parts) done d f k e some good = absurd (cc e)
some_feed p q add Good a a' adder (l ∷ ls) (b ∷ parts) done d f k e some good =
    one_text p q add Good a l ls b done d f k (cc e) good.0
    ∙ texts_feed q add Good a' adder ls parts done (add d b) (flags_over f l.marks) k (cc e) good.1
    ∙ ap (λ (x : Draft). Some (at_state q done x (flags_through (flags_over f l.marks) ls) k))
    (adder.more d b (concat parts))

abbrev NoFourIn : List ℕ → Type 0
NoFourIn b = has_four b ≡ false

abbrev Anything : List ℕ → Type 0
Anything b = Unit {0}

every : (parts : Strings) → AllByRecursion Anything parts
every [] = tt
every (b ∷ parts) = (tt, every parts)

no_fours : (parts : Strings) → ¬ Contains (concat parts) 4 → AllByRecursion NoFourIn parts
no_fours [] h = tt
no_fours (b ∷ parts) h = (
  no_four_here b (λ (m : Contains b 4). h (Contains-append_left b (concat parts) 4 m)),
  no_fours
      parts (λ (m : Contains (concat parts) 4). h (Contains-append_right b (concat parts) 4 m)),
)

grown_nil : (o : Option (List ℕ)) → with_bytes o [] ≡ o
grown_nil None = refl
grown_nil (Some a) = ap Some (append-nil a)

grown_more : (o : Option (List ℕ)) (a b : List ℕ) → with_bytes (with_bytes o a) b ≡ with_bytes o (a ++ b)
grown_more None a b = refl
grown_more (Some o) a b = ap Some (append_assoc o a b)

context_adder : IsAdder add_context
context_adder = record {
  nil = λ d. ap (λ (x : Option (List ℕ)). record {
    lines = d.lines;
    flags = d.flags;
    context = x;
    id = d.id;
    plural =
        d.plural;
    flat = d.flat;
    starts = d.starts;
  }) (grown_nil d.context);
  more = λ d a b. ap (λ (x : Option (List ℕ)). record {
    lines = d.lines;
    flags = d.flags;
    context = x;
    id = d.id;
    plural =
        d.plural;
    flat = d.flat;
    starts = d.starts;
  }) (grown_more d.context a b);
}

plural_adder : IsAdder add_plural
plural_adder = record {
  nil = λ d. ap (λ (x : Option (List ℕ)). record {
    lines = d.lines;
    flags = d.flags;
    context = d.context;
    id = d.id;
    plural = x;
    flat = d.flat;
    starts = d.starts;
  }) (grown_nil d.plural);
  more = λ d a b. ap (λ (x : Option (List ℕ)). record {
    lines = d.lines;
    flags = d.flags;
    context = d.context;
    id = d.id;
    plural = x;
    flat = d.flat;
    starts = d.starts;
  }) (grown_more d.plural a b);
}

id_adder : IsAdder add_id
id_adder = record {
  nil = λ d. ap (λ (x : List ℕ). record {
    lines = d.lines;
    flags = d.flags;
    context = d.context;
    id = x;
    plural =
        d.plural;
    flat = d.flat;
    starts = d.starts;
  }) (append-nil d.id);
  more = λ d a b. ap (λ (x : List ℕ). record {
    lines = d.lines;
    flags = d.flags;
    context = d.context;
    id = x;
    plural =
        d.plural;
    flat = d.flat;
    starts = d.starts;
  }) (append_assoc d.id a b);
}

form_adder : IsAdder add_form
form_adder = record {
  nil = λ d. ap (λ (x : List ℕ). record {
    lines = d.lines;
    flags = d.flags;
    context = d.context;
    id = d.id;
    plural =
        d.plural;
    flat = x;
    starts = d.starts;
  }) (append-nil d.flat);
  more = λ d a b. ap (λ (x : List ℕ). record {
    lines = d.lines;
    flags = d.flags;
    context = d.context;
    id = d.id;
    plural =
        d.plural;
    flat = x;
    starts = d.starts;
  }) (append_assoc d.flat a b);
}

key_step : (b : List ℕ) (p : Stage) → has_four b ≡ false → key_text b p ≡ Some p
key_step b p e = rw e refl

adds_context_word : Adds ContextWord ContextText add_context NoFourIn
unfolding step
adds_context_word = record { here = λ b e. key_step b ContextText e; puts = λ b d. refl }

adds_context : Adds ContextText ContextText add_context NoFourIn
unfolding step
adds_context = record { here = λ b e. key_step b ContextText e; puts = λ b d. refl }

adds_id_word : Adds IdWord IdText add_id NoFourIn
unfolding step
adds_id_word = record { here = λ b e. key_step b IdText e; puts = λ b d. refl }

adds_id : Adds IdText IdText add_id NoFourIn
unfolding step
adds_id = record { here = λ b e. key_step b IdText e; puts = λ b d. refl }

adds_form_word : Adds FormWord FormText add_form Anything
unfolding step
adds_form_word = record { here = λ b e. refl; puts = λ b d. refl }

adds_form : Adds FormText FormText add_form Anything
unfolding step
adds_form = record { here = λ b e. refl; puts = λ b d. refl }

adds_plural_word : Adds PluralWord PluralText add_plural Anything
unfolding step
adds_plural_word = record { here = λ b e. refl; puts = λ b d. refl }

adds_plural : Adds PluralText PluralText add_plural Anything
unfolding step
adds_plural = record { here = λ b e. refl; puts = λ b d. refl }

adds_indexed_word : (k : ℕ) → Adds (IndexedWord k) (IndexedText k) add_form Anything
unfolding step
adds_indexed_word k = record { here = λ b e. refl; puts = λ b d. refl }

adds_indexed : (k : ℕ) → Adds (IndexedText k) (IndexedText k) add_form Anything
unfolding step
adds_indexed k = record { here = λ b e. refl; puts = λ b d. refl }

-- ---- an entry

-- at the end of an entry, with these entries before it and this one under way
abbrev pub EndsAs : List Draft → Draft → Flags → Option State → Type 0
EndsAs done d f o = (q : Stage) × (k : ℕ) × IsBoundary q × ((e : List Draft) (x : Draft) → drafts_at q e x ≡ e
    ++ (x ∷ [])) × (o ≡ Some (at_state q done d f k))

ends_from : (done : List Draft) (d : Draft) (f : Flags) (o o' : Option State) → o ≡ o' → EndsAs done d f o'
    → EndsAs done d f o
ends_from done d f o o' e (q, k, b, last, is) = (q, k, b, last, e ∙ is)

number_step : (k : ℕ) → step (IndexNumber k) (Number k) ≡ Some (IndexClose k)
unfolding step
number_step k = rw (eq-eqb k k refl) refl

-- [ k ] after msgstr
index_feed : (k : ℕ) (o n c : Lexeme) (ls : List Lexeme) (done : List Draft) (d : Draft) (f : Flags) (w : ℕ) → o.token
    ≡ Open → n.token ≡ Number k → c.token ≡ Close
    → feeds (Some (at_state (IndexOpen k) done d f w)) (o ∷ n ∷ c ∷ ls)
    ≡ feeds (Some (at_state (IndexedWord k) done d (flags_through f (o ∷ n ∷ c ∷ [])) w)) ls
unfolding step
index_feed k o n c ls done d f w eo en ec =
    token_feed (at_state (IndexOpen k) done d f w) (at_state (IndexNumber k) done d (flags_over f o.marks) w) o
    (n ∷ c ∷ ls) Open eo refl
    ∙ token_feed (at_state (IndexNumber k) done d (flags_over f o.marks) w)
    (at_state (IndexClose k) done d (flags_over (flags_over f o.marks) n.marks) w) n (c ∷ ls) (Number k) en
    (ap (λ (x : Option Stage). option_map (λ (p : Stage). at_state p done d (flags_over (flags_over f o.marks) n.marks)
    w) x) (number_step k))
    ∙ token_feed (at_state (IndexClose k) done d (flags_over (flags_over f o.marks) n.marks) w)
    (at_state (IndexedWord k) done d (flags_over (flags_over (flags_over f o.marks) n.marks) c.marks) w) c ls Close
    ec refl

-- [ k ] S
form_feed : (k : ℕ) (form : Strings) (ls more : List Lexeme) (done : List Draft) (d : Draft) (f : Flags) (w : ℕ)
    → all_tokens ls ≡ Open ∷ Number k ∷ Close ∷ texts form → IsOneOrMore form
    → feeds (Some (at_state (IndexOpen k) done d f w)) (ls ++ more)
    ≡ feeds (Some (at_state (IndexedText k) done (add_form d (concat form)) (flags_through f ls) w)) more
form_feed k form (o ∷ n ∷ c ∷ ls) more done d f w e some =
    index_feed k o n c (ls ++ more) done d f w (cc e) (cc e) (cc e)
    ∙ feeds-append (Some (at_state (IndexedWord k) done d (flags_through f (o ∷ n ∷ c ∷ [])) w)) ls more
    ∙ ap (λ (x : Option State). feeds x more) (some_feed (IndexedWord k) (IndexedText k) add_form Anything
    (adds_indexed_word k) (adds_indexed k) form_adder ls form done d (flags_through f (o ∷ n ∷ c ∷ [])) w (cc e)
    some (every form))
form_feed k form _ more done d f w e some = absurd (cc e)

-- the draft with these lines, and with these forms after its own
abbrev with_forms : Lines → Draft → List (List ℕ) → Draft
with_forms lines d forms = record {
  lines = lines;
  flags = d.flags;
  context = d.context;
  id = d.id;
  plural = d.plural;
  flat =
      d.flat ++ concat forms;
  starts = d.starts ++ offsets (length d.flat) forms;
}

with_nil : (d : Draft) → with_forms d.lines d [] ≡ d
with_nil d = rw (append-nil d.flat, append-nil d.starts) refl

with_cons : (lines : Lines) (d : Draft) (form : List ℕ) (forms : List (List ℕ))
    → with_forms lines (add_form (new_form lines d) form) forms ≡ with_forms lines d (form ∷ forms)
with_cons lines d form forms = rw (
  append_assoc d.flat form (concat forms),
  append_assoc d.starts (length d.flat ∷ [])
      (offsets (length (d.flat ++ form)) forms),
  length-append d.flat form,
) refl

same_draft : (done : List Draft) (d d' : Draft) (f f' : Flags) (o : Option State) → d ≡ d' → f ≡ f' → EndsAs done d f o
    → EndsAs done d' f' o
same_draft done d d' f f' o e g h = subst (λ (x : Draft). EndsAs done x f' o) e
    (subst (λ (x : Flags). EndsAs done d x o) g h)

forms_feed : (k : ℕ) (forms : List Strings) (ls : List Lexeme) (done : List Draft) (d : Draft) (f : Flags) (w : ℕ)
    → all_tokens ls ≡ form_tokens (k + 1) forms → AllByRecursion IsOneOrMore forms
    → EndsAs done (with_forms d.lines d (map concat forms)) (flags_through f ls)
    (feeds (Some (at_state (IndexedText k) done d f w)) ls)
unfolding step
forms_feed k [] [] done d f w e all = (
  IndexedText k,
  w,
  tt,
  (λ e x. refl),
  ap
      (λ (x : Draft). Some (at_state (IndexedText k) done x f w)) (sym (with_nil d)),
)
forms_feed k (form ∷ forms) (l ∷ ls) done d f w e all =
    let (us, bs, is, front, back) = split_tokens ls (Open ∷ Number (k + 1) ∷ Close ∷ texts form)
    (form_tokens (k + 1 + 1) forms) (cc e) in
    let first = token_feed (at_state (IndexedText k) done d f w)
    (at_state (IndexOpen (k + 1)) done (new_form d.lines d) (flags_over f l.marks) w) l ls Str (cc e) refl in
    let second = ap (λ (x : List Lexeme). feeds (Some (at_state (IndexOpen (k + 1)) done (new_form d.lines d)
    (flags_over f l.marks) w)) x) is
    ∙ form_feed (k + 1) form us bs done (new_form d.lines d) (flags_over f l.marks) w front all.0 in
    let rest = forms_feed (k + 1) forms bs done (add_form (new_form d.lines d) (concat form))
    (flags_through (flags_over f l.marks) us) w back all.1 in
    same_draft done _ _ _ _ _ (with_cons d.lines d (concat form) (map concat forms))
    (sym (flags_through-append (flags_over f l.marks) us bs)
    ∙ ap (λ (x : List Lexeme). flags_through (flags_over f l.marks) x) (sym is))
    (ends_from done _ _ _ _ (first ∙ second) rest)
forms_feed k _ _ done d f w e all = absurd (cc e)

-- the draft with this part, whose first `msgstr` is on this line
abbrev with_part : ℕ → Draft → Part → Draft
with_part line d part = record {
  lines = record { entry = d.lines.entry; form = line };
  flags = d.flags;
  context = d.context;
  id = d.id;
  plural = plural_of part;
  flat = concat (forms_of part);
  starts = offsets 0 (forms_of part);
}

abbrev bare : ℕ → Flags → Option (List ℕ) → List ℕ → Draft
bare line flags context id = record {
  lines = record { entry = line; form = 0 };
  flags = flags;
  context = context;
  id = id;
  plural = None;
  flat = [];
  starts = [];
}

-- ---- the line of the first `msgstr`

form_word_line : (l : Lexeme) (ls : List Lexeme) → l.token ≡ Str → first_form_line (l ∷ ls) ≡ l.line
form_word_line l ls e = rw e refl

other_word_line : (l : Lexeme) (ls : List Lexeme) (t : Token) → l.token ≡ t → is_form_word t ≡ false
    → first_form_line (l ∷ ls) ≡ first_form_line ls
other_word_line l ls t e other = rw (e, other) refl

-- strings come before it
texts_line : (us bs : List Lexeme) (parts : Strings) → all_tokens us ≡ texts parts → first_form_line (us ++ bs)
    ≡ first_form_line bs
texts_line [] bs parts e = refl
texts_line (l ∷ us) bs [] e = absurd (cc e)
texts_line (l ∷ us) bs (b ∷ parts) e = other_word_line l (us ++ bs) (Text b) (cc e) refl
    ∙ texts_line us bs parts (cc e)

line_behind : (ls us bs : List Lexeme) (parts : Strings) → ls ≡ us ++ bs → all_tokens us ≡ texts parts
    → first_form_line ls ≡ first_form_line bs
line_behind ls us bs parts is e = ap first_form_line is ∙ texts_line us bs parts e

part_feed : (part : Part) (ls : List Lexeme) (done : List Draft) (line : ℕ) (flags : Flags) (context : Option (List ℕ))
    (id : List ℕ) (f : Flags) (w : ℕ) → all_tokens ls ≡ part_tokens part → IsLawfulPart part
    → EndsAs done (with_part (first_form_line ls) (bare line flags context id) part) (flags_through f ls)
    (feeds (Some (at_state IdText done (bare line flags context id) f w)) ls)
unfolding step
part_feed (PlainPart form) [] done line flags context id f w e some = absurd (cc e)
part_feed (PlainPart form) (l ∷ ls) done line flags context id f w e some =
    let d = bare line flags context id in
    let lines : Lines = record { entry = line; form = l.line } in
    let first = token_feed (at_state IdText done d f w)
    (at_state FormWord done (new_form lines d) (flags_over f l.marks) w) l ls Str (cc e) refl in
    let rest = some_feed FormWord FormText add_form Anything adds_form_word adds_form form_adder ls form done
    (new_form lines d) (flags_over f l.marks) w (cc e) some (every form) in
    let same : add_form (new_form lines d) (concat form) ≡ with_part l.line d (PlainPart form)
    = rw (append-nil (concat form)) refl in
    same_draft done (add_form (new_form lines d) (concat form)) _ _ _ _
    (same ∙ ap (λ (n : ℕ). with_part n d (PlainPart form)) (sym (form_word_line l ls (cc e)))) refl
    (FormText, w, tt, (λ e x. refl), first ∙ rest)
part_feed (PluralPart plural []) ls done line flags context id f w e some = absurd (some.1 refl)
part_feed (PluralPart plural (form ∷ forms)) [] done line flags context id f w e some = absurd (cc e)
part_feed (PluralPart plural (form ∷ forms)) (l ∷ ls) done line flags context id f w e some =
    let d = bare line flags context id in
    let f1 = flags_over f l.marks in
    let (us, bs, is, front, back) = split_tokens ls (texts plural) (form_tokens 0 (form ∷ forms)) (cc e) in
    let first = token_feed (at_state IdText done d f w) (at_state PluralWord done (new_plural d) f1 w) l ls Plural
    (cc e) refl in
    let second = some_feed PluralWord PluralText add_plural Anything adds_plural_word adds_plural plural_adder us plural
    done (new_plural d) f1 w front some.0 (every plural) in
    let d1 = add_plural (new_plural d) (concat plural) in
    let third = rest_feed d1 bs (flags_through f1 us) back in
    let same : with_forms (record { entry = line; form = first_form_line bs }) d1 (map concat (form ∷ forms))
    ≡ with_part (first_form_line bs) d (PluralPart plural (form ∷ forms)) = rw (zero-add (length (concat form))) refl in
    let at : first_form_line (l ∷ ls) ≡ first_form_line bs = other_word_line l ls Plural (cc e) refl
    ∙ line_behind ls us bs plural is front in
    same_draft done _ _ _ _ _
    (same ∙ ap (λ (n : ℕ). with_part n d (PluralPart plural (form ∷ forms))) (sym at))
    (sym (flags_through-append f1 us bs) ∙ ap (λ (x : List Lexeme). flags_through f1 x) (sym is))
    (ends_from done _ _ _ _ (first ∙ ap (λ (x : List Lexeme). feeds
    (Some (at_state PluralWord done (new_plural d) f1 w)) x) is ∙ feeds-append _ us bs
    ∙ ap (λ (x : Option State). feeds x bs) second) third)
  where
    rest_feed : (d1 : Draft) (bs : List Lexeme) (f2 : Flags) → all_tokens bs ≡ form_tokens 0 (form ∷ forms)
        → EndsAs done (with_forms (record { entry = d1.lines.entry; form = first_form_line bs }) d1
        (map concat (form ∷ forms))) (flags_through f2 bs)
        (feeds (Some (at_state PluralText done d1 f2 w)) bs)
    rest_feed d1 [] f2 e = absurd (cc e)
    rest_feed d1 (l ∷ ls) f2 e =
        let (us, bs, is, front, back) = split_tokens ls (Open ∷ Number 0 ∷ Close ∷ texts form)
        (form_tokens (0 + 1) forms) (cc e) in
        let lines : Lines = record { entry = d1.lines.entry; form = l.line } in
        let first = token_feed (at_state PluralText done d1 f2 w)
        (at_state (IndexOpen 0) done (new_form lines d1) (flags_over f2 l.marks) w) l ls Str (cc e) refl in
        let second = ap (λ (x : List Lexeme). feeds (Some (at_state (IndexOpen 0) done (new_form lines d1)
        (flags_over f2 l.marks) w)) x) is
        ∙ form_feed 0 form us bs done (new_form lines d1) (flags_over f2 l.marks) w front some.2.0 in
        let rest = forms_feed 0 forms bs done (add_form (new_form lines d1) (concat form))
        (flags_through (flags_over f2 l.marks) us) w back some.2.1 in
        same_draft done _ _ _ _ _ (with_cons lines d1 (concat form) (map concat forms)
        ∙ ap (λ (n : ℕ). with_forms (record { entry = d1.lines.entry; form = n }) d1 (map concat (form ∷ forms)))
        (sym (form_word_line l ls (cc e))))
        (sym (flags_through-append (flags_over f2 l.marks) us bs)
        ∙ ap (λ (x : List Lexeme). flags_through (flags_over f2 l.marks) x) (sym is))
        (ends_from done _ _ _ _ (first ∙ second) rest)

-- after the keyword msgid
id_feed : (id : Strings) (part : Part) (ls : List Lexeme) (done : List Draft) (line : ℕ) (flags : Flags)
    (context : Option (List ℕ)) (f : Flags) (w : ℕ) → all_tokens ls ≡ texts id ++ part_tokens part → IsKeyText id
    → IsLawfulPart part
    → EndsAs done (with_part (first_form_line ls) (bare line flags context (concat id)) part) (flags_through f ls)
    (feeds (Some (at_state IdWord done (begin line flags context) f w)) ls)
id_feed id part ls done line flags context f w e key lawful =
    let (us, bs, is, front, back) = split_tokens ls (texts id) (part_tokens part) e in
    let first = some_feed IdWord IdText add_id NoFourIn adds_id_word adds_id id_adder us id done
    (begin line flags context) f w front key.0 (no_fours id key.1) in
    same_draft done _ _ _ _ _ (ap (λ (n : ℕ). with_part n (bare line flags context (concat id)) part)
    (sym (line_behind ls us bs id is front))) (sym (flags_through-append f us bs)
    ∙ ap (λ (x : List Lexeme). flags_through f x) (sym is))
    (ends_from done _ _ _ _ (ap (λ (x : List Lexeme). feeds (Some (at_state IdWord done (begin line flags context) f w))
    x) is ∙ feeds-append _ us bs ∙ ap (λ (x : Option State). feeds x bs) first)
    (part_feed part bs done line flags context (concat id) (flags_through f us) w back lawful))

-- ---- whole entries

opening_id : (p : Stage) → IsBoundary p → (step p Id ≡ Some IdWord) × (opens Id p ≡ Some None)
unfolding step
opening_id Start h = (refl, refl)
opening_id _ h = search

opening_context : (p : Stage) → IsBoundary p → step p Context ≡ Some ContextWord
unfolding step
opening_context Start h = refl
opening_context _ h = search

-- the keyword that opens an entry
open_with_id : (p : Stage) (done : List Draft) (d : Draft) (f : Flags) (k : ℕ) (marks : List Mark) (line : ℕ)
    → IsBoundary p → feed_at (at_state p done d f k) marks line Id
    ≡ Some (at_state IdWord (drafts_at p done d) (begin line (flags_over f marks) None) no_flags line)
open_with_id p done d f k marks line b =
    let h = opening_id p b in
    ap (λ (o : Option Stage). option_map (λ (x : Stage). after (opens Id p) (at_state p done d f k) marks line Id x) o)
    h.0
    ∙ ap (λ (c : Option (Option (List ℕ))). Some (after c (at_state p done d f k) marks line Id IdWord)) h.1

open_with_context : (p : Stage) (done : List Draft) (d : Draft) (f : Flags) (k : ℕ) (marks : List Mark) (line : ℕ)
    → IsBoundary p → feed_at (at_state p done d f k) marks line Context
    ≡ Some (at_state ContextWord (drafts_at p done d) (begin line (flags_over f marks) (Some [])) no_flags line)
open_with_context p done d f k marks line b =
    ap (λ (o : Option Stage). option_map (λ (x : Stage). after (opens Context p) (at_state p done d f k) marks line
    Context x) o) (opening_context p b)

id_in_context : (done : List Draft) (d : Draft) (f : Flags) (k : ℕ) (marks : List Mark) (line : ℕ)
    → feed_at (at_state ContextText done d f k) marks line Id ≡ Some (at_state IdWord done d (flags_over f marks) line)
unfolding step
id_in_context done d f k marks line = refl

entry_feed : (context : Option Strings) (id : Strings) (part : Part) (first : Lexeme) (others : List Lexeme) (p : Stage)
    (done : List Draft) (d : Draft) (f : Flags) (k : ℕ)
    → all_tokens (first ∷ others) ≡ context_tokens context ++ (Id ∷ texts id ++ part_tokens part)
    → IsLawfulContext context → IsKeyText id → IsLawfulPart part → IsBoundary p
    → EndsAs (drafts_at p done d) (with_part (first_form_line others) (bare first.line (flags_over f first.marks)
    (joined_option context) (concat id)) part) (flags_through no_flags others)
    (feeds (Some (at_state p done d f k)) (first ∷ others))
entry_feed None id part first others p done d f k e lawful key part_lawful b =
    ends_from _ _ _ _ _ (token_feed (at_state p done d f k) _ first others Id (cc e)
    (open_with_id p done d f k first.marks first.line b))
    (id_feed id part others (drafts_at p done d) first.line (flags_over f first.marks) None no_flags first.line (cc e)
    key part_lawful)
entry_feed (Some parts) id part first others p done d f k e lawful key part_lawful b =
    let (us, bs, is, front, back) = split_tokens others (texts parts) (Id ∷ (texts id ++ part_tokens part)) (cc e) in
    let ff = flags_over f first.marks in
    let one = token_feed (at_state p done d f k) _ first others Context (cc e)
    (open_with_context p done d f k first.marks first.line b) in
    let two = some_feed ContextWord ContextText add_context NoFourIn adds_context_word adds_context context_adder us
    parts (drafts_at p done d) (begin first.line ff (Some [])) no_flags first.line front lawful.0
    (no_fours parts lawful.1) in
    let both = one ∙ ap (λ (x : List Lexeme). feeds (Some (at_state ContextWord (drafts_at p done d)
    (begin first.line ff (Some [])) no_flags first.line)) x) is ∙ feeds-append _ us bs
    ∙ ap (λ (x : Option State). feeds x bs) two in
    same_draft (drafts_at p done d) _ _ _ _ _ (ap (λ (n : ℕ). with_part n (bare first.line ff (Some (concat parts))
    (concat id)) part) (sym (line_behind others us bs parts is front))) (sym (flags_through-append no_flags us bs)
    ∙ ap (λ (x : List Lexeme). flags_through no_flags x) (sym is))
    (ends_from _ _ _ _ _ both (behind bs ff (flags_through no_flags us) back))
  where
    behind : (bs : List Lexeme) (ff f2 : Flags) → all_tokens bs ≡ Id ∷ (texts id ++ part_tokens part)
        → EndsAs (drafts_at p done d) (with_part (first_form_line bs) (bare first.line ff (Some (concat parts))
        (concat id)) part)
        (flags_through f2 bs) (feeds (Some (at_state ContextText (drafts_at p done d)
        (begin first.line ff (Some (concat parts))) f2 first.line)) bs)
    behind [] ff f2 e = absurd (cc e)
    behind (l ∷ ls) ff f2 e =
        same_draft _ _ _ _ _ _ (ap (λ (n : ℕ). with_part n (bare first.line ff (Some (concat parts)) (concat id)) part)
        (sym (other_word_line l ls Id (cc e) refl))) refl
        (ends_from _ _ _ _ _ (token_feed (at_state ContextText (drafts_at p done d)
        (begin first.line ff (Some (concat parts))) f2 first.line) _ l ls Id (cc e)
        (id_in_context (drafts_at p done d) (begin first.line ff (Some (concat parts))) f2 first.line l.marks
        l.line))
        (id_feed id part ls (drafts_at p done d) first.line ff (Some (concat parts)) (flags_over f2 l.marks) l.line
        (cc e) key part_lawful))

-- all entries
abbrev pub EndsWith : List Draft → Option State → Type 0
EndsWith all o = (q : Stage) × (done : List Draft) × (d : Draft) × (f : Flags) × (k : ℕ) × IsBoundary q
    × (drafts_at q done d ≡ all) × (o ≡ Some (at_state q done d f k))

pub chain_feeds : (entries : List Entry) (marks later : List Mark) (found : List Lexeme)
    → Chain EntryAt entries (marks, found) (later, []) → (p : Stage) (done : List Draft) (d : Draft) (k : ℕ)
    → IsBoundary p
    → EndsWith (drafts_at p done d ++ map draft_of entries) (feeds
    (Some (at_state p done d (flags_over no_flags marks) k)) found)
chain_feeds [] marks later found e p done d k b =
    let none : found ≡ [] = ap (λ (x : List Mark × List Lexeme). x.1) e in (
      p,
      done,
      d,
      flags_over no_flags marks,
      k,
      b,
      sym (append-nil (drafts_at p done d)),
      ap
          (λ (x : List Lexeme). feeds (Some (at_state p done d (flags_over no_flags marks) k)) x) none,
    )
chain_feeds (entry ∷ entries) marks later found ((marks2, found2), at, more) p done d k b =
    let dv = at.derivation in
    let (q, k2, b2, last, is) = entry_feed dv.context dv.id dv.part at.first at.others p done d
    (flags_over no_flags marks) k at.tokens at.lawful.context at.lawful.id at.lawful.part b in
    let draft_is : with_part (first_form_line at.others)
    (bare at.first.line (flags_over (flags_over no_flags marks) at.first.marks)
    (joined_option dv.context) (concat dv.id)) dv.part ≡ draft_of entry
    = ap (λ (x : Flags). with_part (first_form_line at.others)
    (bare at.first.line x (joined_option dv.context) (concat dv.id)) dv.part)
    (sym (flags_over-append no_flags marks at.first.marks) ∙ flags_are (marks ++ at.first.marks))
    ∙ ap draft_of (sym at.entry) in
    let later_flags : flags_through no_flags at.others ≡ flags_over no_flags marks2 = flags_through_marks no_flags
    at.others ∙ ap (λ (m : List Mark). flags_over no_flags m) (sym at.marks) in
    let here : feeds (Some (at_state p done d (flags_over no_flags marks) k)) (at.first ∷ at.others)
    ≡ Some (at_state q (drafts_at p done d) (draft_of entry) (flags_over no_flags marks2) k2)
    = is ∙ ap (λ (x : Draft). Some (at_state q (drafts_at p done d) x (flags_through no_flags at.others) k2)) draft_is
    ∙ ap (λ (x : Flags). Some (at_state q (drafts_at p done d) (draft_of entry) x k2)) later_flags in
    let (r, done3, d3, f3, k3, b3, all, rest) = chain_feeds entries marks2 later found2 more q (drafts_at p done d)
    (draft_of entry) k2 b2 in (
      r,
      done3,
      d3,
      f3,
      k3,
      b3,
      all ∙ ap (λ (x : List Draft). x ++ map draft_of entries) (last (drafts_at p done d) (draft_of entry))
          ∙ append_assoc (drafts_at p done d) (draft_of entry ∷ []) (map draft_of entries),
      ap (λ (x : List Lexeme). feeds (Some (at_state p done d (flags_over no_flags marks) k)) x) at.split
          ∙ feeds-over (Some (at_state p done d (flags_over no_flags marks) k)) _ _ (at.first ∷ at.others) found2 here
          rest,
    )

-- ---- derived tokens are derived entries

first_of : (d : Derivation) (us : List Lexeme) → all_tokens us ≡ tokens_of d → (first : Lexeme) × (others : List Lexeme)
    × (us ≡ first ∷ others)
first_of d [] e = absurd (some d.context e)
  where
    some : (c : Option Strings) → [] ≡ context_tokens c ++ (Id ∷ texts d.id ++ part_tokens d.part) → ⊥
    some None f = cc f
    some (Some parts) f = cc f
first_of d (l ∷ ls) e = (l, ls, refl)

pub chain_of : (ds : List Derivation) (marks : List Mark) (found : List Lexeme) → AllByRecursion IsLawfulEntry ds
    → all_tokens found ≡ flat_map tokens_of ds → (entries : List Entry) × (later : List Mark)
    × Chain EntryAt entries (marks, found) (later, [])
chain_of [] marks [] all e = ([], marks, refl)
chain_of [] marks (l ∷ ls) all e = absurd (cc e)
chain_of (d ∷ ds) marks found all e =
    let (us, bs, is, front, back) = split_tokens found (tokens_of d) (flat_map tokens_of ds) e in
    let (first, others, cut) = first_of d us front in
    let marks2 = flat_map (λ (l : Lexeme). l.marks) others in
    let (entries, later, more) = chain_of ds marks2 bs all.1 back in (
      entry_of first.line (first_form_line others) (marks ++ first.marks) d ∷ entries,
      later,
      (
        (marks2, bs),
        record {
          first = first;
          others = others;
          derivation = d;
          split = is ∙ ap (λ (x : List Lexeme). x ++ bs) cut;
          tokens = ap all_tokens (sym cut) ∙ front;
          lawful = all.0;
          entry = refl;
          marks = refl;
        },
        more,
      ),
    )

-- ---- the stage of what was built

pub feeds_stage : (ls : List Lexeme) (s s' : State) → feeds (Some s) ls ≡ Some s' → run (Some s.stage) (all_tokens ls)
    ≡ Some s'.stage
feeds_stage [] s s' e = let same : s ≡ s' = cc e in ap (λ (x : State). Some x.stage) same
feeds_stage (l ∷ ls) s s' e = go_stage (λ (s2 : State) (h : feeds (Some s2) ls ≡ Some s'). feeds_stage ls s2 s' h)
    (step s.stage l.token) refl
  where
    go_stage : ((s2 : State) → feeds (Some s2) ls ≡ Some s' → run (Some s2.stage) (all_tokens ls) ≡ Some s'.stage)
        → (o : Option Stage) → step s.stage l.token ≡ o → run (Some s.stage) (all_tokens (l ∷ ls)) ≡ Some s'.stage
    go_stage again None none =
        let dead : feeds (Some s) (l ∷ ls) ≡ None = ap (λ (x : Option Stage). feeds
        (option_map (λ (p : Stage). after (opens l.token s.stage) s l.marks l.line l.token p) x) ls) none
        ∙ feeds-none ls in
        absurd (cc (dead, e))
    go_stage again (Some p) some =
        let next : feeds (Some s) (l ∷ ls) ≡ feeds (Some (after (opens l.token s.stage) s l.marks l.line l.token p)) ls
        = ap (λ (x : Option Stage). feeds (option_map (λ (y : Stage). after (opens l.token s.stage) s l.marks l.line
        l.token y) x) ls) some in
        ap (λ (x : Option Stage). run x (all_tokens ls)) some
        ∙ ap (λ (x : Stage). run (Some x) (all_tokens ls)) (sym (after_stage (opens l.token s.stage) p))
        ∙ again (after (opens l.token s.stage) s l.marks l.line l.token p) (sym next ∙ e)
      where
        after_stage : (c : Option (Option (List ℕ))) (p : Stage) → (after c s l.marks l.line l.token p).stage ≡ p
        after_stage None p = refl
        after_stage (Some context) p = refl

-- what was built up to the end of an entry is what the lexemes derive
pub put_together : (found : List Lexeme) (s : State) → feeds (Some start) found ≡ Some s → IsBoundary s.stage
    → (entries : List Entry) × Derives found entries × (drafts_at s.stage s.done s.draft ≡ map draft_of entries)
put_together found s e b =
    let (ds, all, is) = derived (all_tokens found) s.stage (feeds_stage found start s e) b in
    let (entries, later, chain) = chain_of ds [] found all is in
    let (q, done, d, f, k, b', whole, end) = chain_feeds entries [] later found chain Start [] (begin 0 no_flags None) 0
    tt in
    let same : s ≡ at_state q done d f k = cc (e, end) in
    (entries, (later, chain), ap (λ (x : State). drafts_at x.stage x.done x.draft) same ∙ whole)
