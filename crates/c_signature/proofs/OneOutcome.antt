-- A text is cut in one way, and so has one outcome.
use Rattle.std.proofs.Common.{◌≡◌, ℕ, zero, suc, ◌+◌, ◌<◌, length, List, [], ◌∷◌}
use Rattle.std.proofs.Common.{◌++◌, Some, refl, sym, ap, subst, ◌∙◌, arith, inl, inr}
use Rattle.std.specs.Prelude.{slice_get, ◌⊎◌}
use Rattle.std.specs.List.{flat_map}
use Rattle.std.proofs.lemmas.Bool.{cases_eq, ne_eqb}
use Rattle.std.proofs.lemmas.Option.{slice_get_within}
use Rattle.c_signature.specs.declared.ArgKind.{ArgKind}
use Rattle.c_signature.specs.Pieces.{percent}
use Rattle.c_signature.specs.Directives.{Directive, DirectiveAt, IsUnreadable, NamesMacro}
use Rattle.c_signature.specs.Signature.{Request, requests, InOrder, ByNumber, AsksFor, is_plain, SkipsPlain}
use Rattle.c_signature.specs.Signature.{Cuts, IsFormat, StopsAt, Lists, IsInvalid, IsSystemDependent}
use Rattle.c_signature.specs.Readers.{Stops}
use Rattle.c_signature.proofs.Runs.{one_run}
use Rattle.c_signature.proofs.DirectiveLemmas.{directive_one}
use Rattle.c_signature.proofs.RequestLemmas.{contains_first}
use Rattle.c_signature.proofs.FormatLemmas.{cuts_push, step_shorter}

-- ---- one cut

percent_stops : (at behind : List ℕ) → at ≡ percent ∷ behind → Stops is_plain at
percent_stops at behind e = rw e refl

plain_one : (text at stop : List ℕ) → SkipsPlain text at → SkipsPlain text stop → Stops is_plain at
    → Stops is_plain stop → at ≡ stop
plain_one text at stop p q stops halts = (one_run is_plain p.plain at q.plain stop p.no_percent stops q.no_percent halts
    (sym p.text_is ∙ q.text_is)).1

-- after plain bytes the text ends, or no directive can be read
pub record Ends (last stop : List ℕ) : Type 0 where
  plain : SkipsPlain last stop
  nothing : (stop ≡ []) ⊎ IsUnreadable stop

end_stops : (stop : List ℕ) → (stop ≡ []) ⊎ IsUnreadable stop → Stops is_plain stop
end_stops stop (inl e) = rw e tt
end_stops stop (inr bad) = percent_stops stop bad.behind bad.begins

-- no directive begins where the cut ends
no_directive : (d : Directive) (last stop at after : List ℕ) → Ends last stop → SkipsPlain last at
    → DirectiveAt d at after → ⊥
no_directive d last stop at after ends plain x = go (plain_one last stop at ends.plain plain
    (end_stops stop ends.nothing) (percent_stops at x.head.behind_percent x.head.begins)) ends.nothing
  where
    go : stop ≡ at → (stop ≡ []) ⊎ IsUnreadable stop → ⊥
    go same (inl e) = cc (same, e, x.head.begins)
    go same (inr bad) = bad.none d after (rw same x)

one_cut : (ds es : List Directive) (text last late stop halt : List ℕ) → Cuts ds text last → Ends last stop
    → Cuts es text late → Ends late halt → (ds ≡ es) × (stop ≡ halt)
one_cut [] [] text last late stop halt e ends f also =
    let plain = subst (λ (t : List ℕ). SkipsPlain t halt) (sym f ∙ e) also.plain in
    (refl, plain_one last stop halt ends.plain plain (end_stops stop ends.nothing) (end_stops halt also.nothing))
one_cut [] (d ∷ es) text last late stop halt e ends (at, after, plain, x, more) also =
    absurd (no_directive d last stop at after ends (subst (λ (t : List ℕ). SkipsPlain t at) e plain) x)
one_cut (d ∷ ds) [] text last late stop halt (at, after, plain, x, more) ends e also =
    absurd (no_directive d late halt at after also (subst (λ (t : List ℕ). SkipsPlain t at) e plain) x)
one_cut (d ∷ ds) (c ∷ es) text last late stop halt (at, after, plain, x, more) ends (here, behind, skips, y, others)
    also =
    let same = plain_one text at here plain skips (percent_stops at x.head.behind_percent x.head.begins)
    (percent_stops here y.head.behind_percent y.head.begins) in
    let directives = directive_one d c here after behind (subst (λ (t : List ℕ). DirectiveAt d t after) same x) y in
    let ih = one_cut ds es behind last late stop halt (subst (λ (t : List ℕ). Cuts ds t last) directives.1 more) ends
    others also in
    (cc (directives.0, ih.0), ih.1)

format_ends : (text : List ℕ) (ds : List Directive) (f : IsFormat text ds) → Ends f.last []
format_ends text ds f = record { plain = f.end; nothing = inl refl }

stop_ends : (text stop : List ℕ) (s : StopsAt text stop) → Ends s.last stop
stop_ends text stop s = record { plain = s.plain; nothing = inr s.unreadable }

one_format : (text : List ℕ) (ds es : List Directive) → IsFormat text ds → IsFormat text es → ds ≡ es
one_format text ds es f g = (one_cut ds es text f.last g.last [] [] f.cut (format_ends text ds f) g.cut
    (format_ends text es g)).0

format_or_stop : (text stop : List ℕ) (ds : List Directive) → IsFormat text ds → StopsAt text stop → ⊥
format_or_stop text stop ds f s =
    let same = (one_cut ds s.directives text f.last s.last [] stop f.cut (format_ends text ds f) s.cut
    (stop_ends text stop s)).1 in
    cc (same, s.unreadable.begins)

one_stop : (text stop halt : List ℕ) → StopsAt text stop → StopsAt text halt → stop ≡ halt
one_stop text stop halt s h = (one_cut s.directives h.directives text s.last h.last stop halt s.cut
    (stop_ends text stop s) h.cut (stop_ends text halt h)).1

-- ---- one list

same_gets : {A : Type 0} (xs ys : List A) → ((i : ℕ) (x : A) → slice_get xs i ≡ Some x → slice_get ys i ≡ Some x)
    → ((i : ℕ) (x : A) → slice_get ys i ≡ Some x → slice_get xs i ≡ Some x) → xs ≡ ys
same_gets [] [] there back = refl
same_gets [] (y ∷ ys) there back = absurd (cc (back 0 y refl))
same_gets (x ∷ xs) [] there back = absurd (cc (there 0 x refl))
same_gets (x ∷ xs) (y ∷ ys) there back =
    let heads : y ≡ x = cc (there 0 x refl) in
    let tails = same_gets xs ys (λ i z e. there (suc i) z e) (λ i z e. back (suc i) z e) in
    cc (heads, tails)

-- what is at an index of one list is there in the other
same_place : (asked : List Request) (kinds others : List ArgKind) → ByNumber asked kinds → ByNumber asked others
    → (i : ℕ) (x : ArgKind) → slice_get kinds i ≡ Some x → slice_get others i ≡ Some x
same_place asked kinds others p q i x e =
    let there = p.complete i (slice_get_within kinds i x e) in
    let here = p.placed there.0 there.1 in
    let also = q.placed there.0 there.1 in
    let here_is : here.0 + 1 ≡ i + 1 = cc (here.1, there.2) in
    let also_is : also.0 + 1 ≡ i + 1 = cc (also.1, there.2) in
    let here_at : here.0 ≡ i = omega (arith, here_is) in
    let also_at : also.0 ≡ i = omega (arith, also_is) in
    let kind : Some there.0.kind ≡ Some x = sym here.2 ∙ ap (λ (k : ℕ). slice_get kinds k) here_at ∙ e in
    sym (ap (λ (k : ℕ). slice_get others k) also_at) ∙ also.2 ∙ kind

-- only the empty list is both in order and by number
both_ways : (asked : List Request) (kinds others : List ArgKind) → InOrder asked kinds → ByNumber asked others → kinds
    ≡ others
both_ways (r ∷ more) kinds others order number =
    let place = number.placed r (contains_first r more) in
    absurd (cc (order.unnumbered r (contains_first r more), place.1))
both_ways [] kinds [] order number = order.kinds_are
both_ways [] kinds (k ∷ others) order number =
    let there = number.complete 0 (omega arith) in
    absurd (omega (arith, there.1.1))

one_list : (asked : List Request) (kinds others : List ArgKind) → AsksFor asked kinds → AsksFor asked others → kinds
    ≡ others
one_list asked kinds others (inl p) (inl q) = p.kinds_are ∙ sym q.kinds_are
one_list asked kinds others (inl p) (inr q) = both_ways asked kinds others p q
one_list asked kinds others (inr p) (inl q) = sym (both_ways asked others kinds q p)
one_list asked kinds others (inr p) (inr q) = same_gets kinds others (same_place asked kinds others p q)
    (same_place asked others kinds q p)

-- ---- one outcome

pub lists_one : (text : List ℕ) (kinds others : List ArgKind) → Lists text kinds → Lists text others → kinds ≡ others
lists_one text kinds others (ds, f, p) (es, g, q) =
    one_list (flat_map requests es) kinds others (subst (λ (cs : List Directive). AsksFor (flat_map requests cs) kinds)
    (one_format text ds es f g) p) q

pub lists_valid : (text : List ℕ) (kinds : List ArgKind) → Lists text kinds → IsInvalid text → ⊥
lists_valid text kinds (ds, f, p) (inl (stop, s, no_macro)) = format_or_stop text stop ds f s
lists_valid text kinds (ds, f, p) (inr (es, g, none)) = none kinds
    (subst (λ (cs : List Directive). AsksFor (flat_map requests cs) kinds) (one_format text ds es f g) p)

pub lists_independent : (text : List ℕ) (kinds : List ArgKind) → Lists text kinds → IsSystemDependent text → ⊥
lists_independent text kinds (ds, f, p) (stop, s, names) = format_or_stop text stop ds f s

pub one_fault : (text : List ℕ) → IsInvalid text → IsSystemDependent text → ⊥
one_fault text (inl (stop, s, no_macro)) (halt, h, names) = no_macro
    (subst (λ (t : List ℕ). NamesMacro t) (one_stop text halt stop h s) names)
one_fault text (inr (ds, f, none)) (halt, h, names) = format_or_stop text halt ds f h

-- ---- at least one outcome

next_percent : (text : List ℕ) → SkipsPlain text [] ⊎ ((behind : List ℕ) × SkipsPlain text (percent ∷ behind))
next_percent [] = inl (record { plain = []; text_is = refl; no_percent = refl })
next_percent (b ∷ text) = elim (cases_eq b percent) [
  | inl e ↦ inr (text, record { plain = []; text_is = ap (λ (c : ℕ). c ∷ text) e; no_percent = refl })
  | inr differs ↦ elim (next_percent text) [
    | inl end ↦ inl (further text [] differs end)
    | inr later ↦ inr (later.0, further text (percent ∷ later.0) differs later.1)
  ]
]
  where
    further : (text rest : List ℕ) → (b ≡ percent → ⊥) → SkipsPlain text rest → SkipsPlain (b ∷ text) rest
    further text rest differs skips = record {
      plain = b ∷ skips.plain;
      text_is = ap (λ (t : List ℕ). b ∷ t) skips.text_is;
      no_percent = rw (ne_eqb b percent differs) skips.no_percent;
    }

-- from a position that a cut reaches
some_from_there : (n : ℕ) (text last : List ℕ) (ds : List Directive) → length last < n → Cuts ds text last
    → ((kinds : List ArgKind) → Lists text kinds → ⊥) → (IsInvalid text → ⊥) → (IsSystemDependent text → ⊥) → ⊥
some_from_there zero text last ds short cut no_list valid independent = omega arith
some_from_there (suc n) text last ds short cut no_list valid independent = elim (next_percent last) [
  | inl end ↦ let format : IsFormat text ds = record { last = last; cut = cut; end = end } in valid
      (inr (ds, format, λ kinds list. no_list kinds (ds, format, list)))
  | inr later ↦
      let stop = percent ∷ later.0 in
      let at : StopsAt text stop = record {
        directives = ds;
        last = last;
        cut = cut;
        plain = later.1;
        unreadable = record {
          behind = later.0;
          begins = refl;
          none = λ d rest x. some_from_there n text rest (ds ++ d ∷ [])
              (omega (arith, short, step_shorter last stop rest d later.1 x))
              (cuts_push ds d text last stop rest cut later.1 x) no_list valid independent;
        };
      } in
      valid (inl (stop, at, λ names. independent (stop, at, names)))
]

pub some_outcome : (text : List ℕ) → ((kinds : List ArgKind) → Lists text kinds → ⊥) → (IsInvalid text → ⊥)
    → (IsSystemDependent text → ⊥) → ⊥
some_outcome text no_list valid independent = some_from_there (length text + 1) text text [] (omega arith) refl no_list
    valid independent
