-- A text has one meaning.
use Rattle.catalogue.proofs.Kit.{◌≡◌, ℕ, Bool, List, [], ◌∷◌, map, refl, sym, ap, ◌∙◌, subst, arith, inl, inr, ◌⊎◌}
use Rattle.catalogue.proofs.Kit.{Contains, nat_cmp, Less, IsTotalOrder, slice_cmp, nat_list_cmp_total, All-contains}
use Rattle.catalogue.proofs.Kit.{Entry, key, Rises, message_of, kept_entries, header_line_of, IsMapOf, Means, Refuses}
use Rattle.catalogue.proofs.Kit.{Fails, IsFirst, kind_of, Options, Compiled, LoadKind, TooLarge, NotUtf8, BadEscape}
use Rattle.catalogue.proofs.Kit.{OpenString, BadWord, BadText, BadOrder, BadIndex}
use Rattle.std.proofs.lemmas.Cmp.{tied_itself}
use Rattle.po_text.specs.Entries as po
use Rattle.po_text.specs.Outcome as outcome
use Rattle.po_text.specs.declared.fault.PoKind.{PoKind}
use Rattle.po_text.specs.declared.fault.PoKind.TheVariants as kinds
use Rattle.po_text.proofs.Outcomes.{gives_one, refuses_one, gives_or_refuses}
use Rattle.catalogue.specs.Meaning.{stats_of, missing_of}
use Rattle.catalogue_drafts.specs.declared.stats.Stats.{Stats}
use Rattle.catalogue_drafts.proofs.Members.{has_head, has_tail, has_cases}
use Rattle.po_checks.proofs.Refusals.{first_refusal_one}

-- ---- one list of entries with rising keys

abbrev total : IsTotalOrder (slice_cmp nat_cmp)
total = nat_list_cmp_total

pub rises_behind : (k : List ℕ) (ks : List (List ℕ)) → Rises (k ∷ ks) → Rises ks
rises_behind k [] rises = tt
rises_behind k (l ∷ ks) rises = rises.1

-- a key is below those of the members after it
pub below_members : (k : List ℕ) (m : List Entry) (e : Entry) → Rises (k ∷ map key m) → Contains m e
    → slice_cmp nat_cmp k (key e) ≡ Less
below_members k [] e rises has = absurd (omega (arith, has.1))
below_members k (d ∷ m) e rises has = elim (has_cases e d m has) [
  | inl same ↦ subst (λ (x : Entry). slice_cmp nat_cmp k (key x) ≡ Less) same rises.0
  | inr behind ↦ total.trans k (key d) (key e) rises.0 (below_members (key d) m e rises.1 behind)
]

not_below_itself : (k : List ℕ) → slice_cmp nat_cmp k k ≡ Less → ⊥
not_below_itself k less = let tie = tied_itself total k in absurd (cc (less, tie))

not_behind_itself : (e : Entry) (m : List Entry) → Rises (key e ∷ map key m) → Contains m e → ⊥
not_behind_itself e m rises has = not_below_itself (key e) (below_members (key e) m e rises has)

-- a member of one list is a member of the other
abbrev AreMembers : List Entry → List Entry → Type 0
AreMembers m n = (e : Entry) → Contains m e → Contains n e

same_head : (d e : Entry) (m n : List Entry) → Rises (key d ∷ map key m) → Rises (key e ∷ map key n)
    → AreMembers (d ∷ m) (e ∷ n) → AreMembers (e ∷ n) (d ∷ m) → d ≡ e
same_head d e m n rises rises' within within' = elim (has_cases d e n (within d (has_head d d m refl))) [
  | inl same ↦ sym same
  | inr behind ↦ elim (has_cases e d m (within' e (has_head e e n refl))) [
    | inl same ↦ same
    | inr behind' ↦ absurd (not_below_itself (key d) (total.trans (key d) (key e) (key d)
        (below_members (key d) m e rises behind') (below_members (key e) n d rises' behind)))
  ]
]

-- without their heads, the lists still have equal members
rest_within : (d e : Entry) (m n : List Entry) → Rises (key d ∷ map key m) → d ≡ e → AreMembers (d ∷ m) (e ∷ n)
    → AreMembers m n
rest_within d e m n rises same within x has = elim (has_cases x e n (within x (has_tail x d m has))) [
  | inl is ↦ absurd (not_behind_itself d m rises (subst (λ (y : Entry). Contains m y) (sym (same ∙ is)) has))
  | inr behind ↦ behind
]

same_entries : (m n : List Entry) → Rises (map key m) → Rises (map key n) → AreMembers m n → AreMembers n m → m ≡ n
same_entries [] [] rises rises' within within' = refl
same_entries [] (e ∷ n) rises rises' within within' = absurd (omega (arith, (within' e (has_head e e n refl)).1))
same_entries (d ∷ m) [] rises rises' within within' = absurd (omega (arith, (within d (has_head d d m refl)).1))
same_entries (d ∷ m) (e ∷ n) rises rises' within within' =
    let same : d ≡ e = same_head d e m n rises rises' within within' in
    let rest : m ≡ n = same_entries m n (rises_behind (key d) (map key m) rises)
    (rises_behind (key e) (map key n) rises') (rest_within d e m n rises same within)
    (rest_within e d n m rises' (sym same) within') in
    cc (same, rest)

map_one : (entries : List po.Entry) (m n : List Entry) → IsMapOf entries m → IsMapOf entries n → m ≡ n
map_one entries m n p q = same_entries m n p.rises q.rises (members m n p q) (members n m q p)
  where
    members : (a b : List Entry) → IsMapOf entries a → IsMapOf entries b → AreMembers a b
    members a b s t e has = All-contains (Contains b) (map message_of entries) e t.listed
        (All-contains (Contains (map message_of entries)) a e s.nothing_else has)

-- ---- one refusal

-- a refusal is one of the PO text, or one of its entries
abbrev OfText : List ℕ → LoadKind → ℕ → Type 0
OfText text kind line = (fault : PoKind) × (kind ≡ kind_of fault) × outcome.Refuses text fault line

abbrev OfEntries : List ℕ → Options → LoadKind → ℕ → Type 0
OfEntries text o kind line = (entries : List po.Entry) × outcome.Gives text entries
    × IsFirst (Fails o entries) kind line

refusal_is : (text : List ℕ) (o : Options) (kind : LoadKind) (line : ℕ) → Refuses text o kind line
    → OfText text kind line ⊎ OfEntries text o kind line
refusal_is text o TooLarge line r = inl (kinds.TooLarge, refl, r)
refusal_is text o NotUtf8 line r = inl (kinds.NotUtf8, refl, r)
refusal_is text o BadEscape line r = inl (kinds.BadEscape, refl, r)
refusal_is text o OpenString line r = inl (kinds.OpenString, refl, r)
refusal_is text o BadWord line r = inl (kinds.BadWord, refl, r)
refusal_is text o BadText line r = inl (kinds.BadText, refl, r)
refusal_is text o BadOrder line r = inl (kinds.BadOrder, refl, r)
refusal_is text o BadIndex line r = inl (kinds.BadIndex, refl, r)
refusal_is text o _ line r = inr r

either_one : (text : List ℕ) (o : Options) (kind other : LoadKind) (line m : ℕ) → OfText text kind line
    ⊎ OfEntries text o kind line → OfText text other m ⊎ OfEntries text o other m → (kind ≡ other) × (line ≡ m)
either_one text o kind other line m (inl (f, is, r)) (inl (g, is', r')) =
    let one = refuses_one text f g line m r r' in
    (is ∙ ap kind_of one.0 ∙ sym is', one.1)
either_one text o kind other line m (inl (f, is, r)) (inr (entries, gives, d)) = absurd
    (gives_or_refuses text entries f line gives r)
either_one text o kind other line m (inr (entries, gives, d)) (inl (g, is', r')) = absurd
    (gives_or_refuses text entries g m gives r')
either_one text o kind other line m (inr (entries, gives, d)) (inr (others, gives', d')) =
    first_refusal_one o others kind other line m (subst (λ (es : List po.Entry). IsFirst (Fails o es) kind line)
    (gives_one text entries others gives gives') d) d'

pub refusal_one : (text : List ℕ) (o : Options) (kind other : LoadKind) (line m : ℕ) → Refuses text o kind line
    → Refuses text o other m → (kind ≡ other) × (line ≡ m)
refusal_one text o kind other line m r r' = either_one text o kind other line m (refusal_is text o kind line r)
    (refusal_is text o other m r')

-- ---- one meaning

means_or : (text : List ℕ) (o : Options) (compiled : Compiled) (kind : LoadKind) (line : ℕ) → Means text o compiled
    → OfText text kind line ⊎ OfEntries text o kind line → ⊥
means_or text o compiled kind line means (inl (f, is, r)) = gives_or_refuses text means.entries f line means.gives r
means_or text o compiled kind line means (inr (others, gives, f)) =
    means.passes kind line (subst (λ (es : List po.Entry). Fails o es kind line)
    (gives_one text others means.entries gives means.gives) f.holds)

pub means_or_refuses : (text : List ℕ) (o : Options) (compiled : Compiled) (kind : LoadKind) (line : ℕ)
    → Means text o compiled → Refuses text o kind line → ⊥
means_or_refuses text o compiled kind line means r = means_or text o compiled kind line means
    (refusal_is text o kind line r)

same_compiled : (c d : Compiled) → c.catalogue ≡ d.catalogue → c.stats ≡ d.stats → c.missing ≡ d.missing → c.header_line
    ≡ d.header_line → c ≡ d
same_compiled c d catalogue stats missing line =
    let of : List Entry → Stats → List Bool → ℕ → Compiled = λ a b f n. record
    { catalogue = a; stats = b; missing = f; header_line = n } in
    ap (λ a. of a c.stats c.missing c.header_line) catalogue ∙ ap (λ b. of d.catalogue b c.missing c.header_line) stats
    ∙ ap (λ f. of d.catalogue d.stats f c.header_line) missing ∙ ap (of d.catalogue d.stats d.missing) line

pub meaning_one : (text : List ℕ) (o : Options) (compiled other : Compiled) → Means text o compiled → Means text o other
    → compiled ≡ other
meaning_one text o compiled other p q =
    let same : p.entries ≡ q.entries = gives_one text p.entries q.entries p.gives q.gives in
    same_compiled compiled other
    (map_one (kept_entries o q.entries) compiled.catalogue other.catalogue
    (subst (λ (es : List po.Entry). IsMapOf (kept_entries o es) compiled.catalogue) same p.map_is) q.map_is)
    (p.stats_are ∙ ap stats_of same ∙ sym q.stats_are)
    (p.missing_is ∙ ap (missing_of o) same ∙ sym q.missing_is)
    (p.header_line_is ∙ ap (header_line_of o) same ∙ sym q.header_line_is)
