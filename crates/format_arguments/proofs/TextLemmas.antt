-- A text, cut into plain pieces and directives from the front.
use Rattle.std.proofs.Common.{◌≡◌, ℕ, ◌+◌, ◌-◌, ◌<◌, ◌≤◌, true, false, List, [], ◌∷◌, ◌++◌, length, take}
use Rattle.std.proofs.Common.{drop, get_or, None, Some, refl, sym, ap, subst, ◌∙◌, arith, inl, inr, append_assoc}
use Rattle.std.specs.List.{list_all, flat_map}
use Rattle.std.proofs.lemmas.List.{append-nil, take-append-drop, take_rest, drop_more, length-append}
use Rattle.std.proofs.lemmas.List.{flat_map_more, take_all, get_or_default, get_or-take, length-take-le}
use Rattle.std.proofs.lemmas.List.Sums.{list_all-from_AllPass}
use Rattle.std.proofs.lemmas.Bool.{cases_Bool, eqb-true, and_parts, eq-eqb}
use Rattle.memchr.specs.Find.{IsFirstByte, is_byte}
use Rattle.format_arguments.specs.Arguments.{Argument, is_consistent}
use Rattle.format_arguments.specs.Text.{is_plain, SkipsPlain, IsFormat, Asks, AreDirectives}

-- ---- the next mark

plain_before : (mark : ℕ) (text : List ℕ) (n : ℕ) → n ≤ length text
    → ((k : ℕ) → k < n → is_byte mark (get_or text k 0) ≡ true → ⊥) → list_all (is_plain mark) (take n text) ≡ true
plain_before mark text n le none = list_all-from_AllPass (is_plain mark) (take n text) (λ k d lt.
    let within : k < n = omega (arith, length-take-le n text le) in
    let here : get_or (take n text) k d ≡ get_or text k 0 = get_or-take n text k d within
    ∙ get_or_default text k d 0 (omega arith) in
    rw here (plain_byte (get_or text k 0) (none k within)))
  where
    plain_byte : (b : ℕ) → (is_byte mark b ≡ true → ⊥) → is_plain mark b ≡ true
    plain_byte b differs = elim (cases_Bool (is_byte mark b)) [
      | inl e ↦ absurd (differs e)
      | inr e ↦ rw e refl
    ]

pub no_mark : (mark : ℕ) (text : List ℕ) → IsFirstByte (is_byte mark) text None → SkipsPlain mark text []
no_mark mark text none = record {
  plain = text;
  text_is = sym (append-nil text);
  no_mark = rw (← take_all_of)
      (plain_before mark text (length text) (omega arith) (λ k lt e. none k (omega arith) lt e));
}
  where
    take_all_of : take (length text) text ≡ text
    take_all_of = take_all (length text) text (omega arith)

pub to_mark : (mark : ℕ) (text : List ℕ) (offset : ℕ) → IsFirstByte (is_byte mark) text (Some offset)
    → SkipsPlain mark text (mark ∷ take (length text - (offset + 1)) (drop (offset + 1) text))
to_mark mark text offset (first, at) =
    let here : get_or text offset 0 ≡ mark = eqb-true _ _ at in
    let rest : drop offset text ≡ mark ∷ drop (offset + 1) text = drop_more text offset 0 first.high
    ∙ ap (λ (b : ℕ). b ∷ drop (offset + 1) text) here in
    record {
      plain = take offset text;
      text_is = rw (take_rest text (offset + 1), ← rest) (sym (take-append-drop offset text));
      no_mark = plain_before mark text offset (omega (arith, first.high)) (λ k lt e. first.before k (omega arith) lt e);
    }

-- ---- one way to cut

not_plain : (mark c : ℕ) → c ≡ mark → is_plain mark c ≡ true → ⊥
not_plain mark c e h =
    let here : is_plain mark c ≡ false = rw (eq-eqb c mark e) refl in
    absurd (cc (here, h))

one_plain : (mark : ℕ) (p q : List ℕ) (r s : List ℕ) → list_all (is_plain mark) p ≡ true
    → list_all (is_plain mark) q ≡ true → p ++ mark ∷ r ≡ q ++ mark ∷ s → r ≡ s
one_plain mark [] [] r s f g e = cc e
one_plain mark [] (c ∷ q) r s f g e =
    absurd (not_plain mark c (sym (cc e)) (and_parts (is_plain mark c) (list_all (is_plain mark) q) g).0)
one_plain mark (b ∷ p) [] r s f g e =
    absurd (not_plain mark b (cc e) (and_parts (is_plain mark b) (list_all (is_plain mark) p) f).0)
one_plain mark (b ∷ p) (c ∷ q) r s f g e =
    one_plain mark p q r s (and_parts (is_plain mark b) (list_all (is_plain mark) p) f).1
    (and_parts (is_plain mark c) (list_all (is_plain mark) q) g).1 (cc e)

never_plain : (mark : ℕ) (p r q : List ℕ) → list_all (is_plain mark) q ≡ true → p ++ mark ∷ r ≡ q → ⊥
never_plain mark [] r [] f e = absurd (cc e)
never_plain mark [] r (c ∷ q) f e =
    absurd (not_plain mark c (sym (cc e)) (and_parts (is_plain mark c) (list_all (is_plain mark) q) f).0)
never_plain mark (b ∷ p) r [] f e = absurd (cc e)
never_plain mark (b ∷ p) r (c ∷ q) f e =
    never_plain mark p r q (and_parts (is_plain mark c) (list_all (is_plain mark) q) f).1 (cc e)

module _ {D : Type 0} (mark : ℕ) (At : D → List ℕ → List ℕ → Type 0) (laws : AreDirectives mark At) where
  -- a format whose text goes on with the mark begins with a directive there
  begins_with : (all : List D) (text behind : List ℕ) → SkipsPlain mark text (mark ∷ behind)
      → IsFormat mark At all text → (d : D) × (more : List D) × (after : List ℕ) × (all ≡ d ∷ more)
      × At d (mark ∷ behind) after × IsFormat mark At more after
  begins_with [] text behind s end = absurd (never_plain mark s.plain behind end.plain end.no_mark
      (sym s.text_is ∙ end.text_is ∙ append-nil end.plain))
  begins_with (d ∷ more) text behind s (at, after, skips, x, others) =
      let begin : (b : List ℕ) × (at ≡ mark ∷ b) = laws.begins d at after x in
      let whole : s.plain ++ mark ∷ behind ≡ skips.plain ++ mark ∷ begin.0 = sym s.text_is ∙ skips.text_is
      ∙ ap (λ (t : List ℕ). skips.plain ++ t) begin.1 in
      let behinds : behind ≡ begin.0 =
      one_plain mark s.plain skips.plain behind begin.0 s.no_mark skips.no_mark whole in
      let same : at ≡ mark ∷ behind = begin.1 ∙ ap (λ (t : List ℕ). mark ∷ t) (sym behinds) in
      (d, more, after, refl, subst (λ (t : List ℕ). At d t after) same x, others)

  module _ {A : Type 0} (asks : D → List A) where
    -- up to rest these directives were read: the text is a format in the ways that rest is one
    pub record HasRead (text rest : List ℕ) (asked : List A) : Type 0 where
      pub directives : List D
      pub on : (more : List D) → IsFormat mark At more rest → IsFormat mark At (directives ++ more) text
      pub back : (all : List D) → IsFormat mark At all text → (more : List D) × (all ≡ directives ++ more)
          × IsFormat mark At more rest
      pub asked_is : asked ≡ flat_map asks directives

    pub read_nothing : (text : List ℕ) → HasRead text text []
    read_nothing text = record {
      directives = [];
      on = λ more f. f;
      back = λ all f. (all, refl, f);
      asked_is = refl;
    }

    pub reads_on : (text rest behind after : List ℕ) (d : D) (old new : List A) → HasRead text rest old
        → SkipsPlain mark rest (mark ∷ behind) → At d (mark ∷ behind) after → new ≡ old ++ asks d
        → HasRead text after new
    reads_on text rest behind after d old new so_far plain x e = record {
      directives = so_far.directives ++ d ∷ [];
      on = λ more f. subst (λ (ds : List D). IsFormat mark At ds text)
          (sym (append_assoc so_far.directives (d ∷ []) more))
          (so_far.on (d ∷ more) (mark ∷ behind, after, plain, x, f));
      back = λ all f. back all f;
      asked_is = e ∙ ap (λ (asked : List A). asked ++ asks d) so_far.asked_is
          ∙ flat_map_more asks [] so_far.directives d;
    }
      where
        back : (all : List D) → IsFormat mark At all text → (more : List D)
            × (all ≡ (so_far.directives ++ d ∷ []) ++ more) × IsFormat mark At more after
        back all f =
            let p = so_far.back all f in
            let q = begins_with p.0 rest behind plain p.2 in
            let same = laws.one q.0 d (mark ∷ behind) q.2 after q.4 x in
            let first : p.0 ≡ d ∷ q.1 = q.3 ∙ ap (λ (c : D). c ∷ q.1) same.0 in (
              q.1,
              p.1 ∙ ap (λ (ds : List D). so_far.directives ++ ds) first
                  ∙ sym (append_assoc so_far.directives (d ∷ []) q.1),
              subst (λ (t : List ℕ). IsFormat mark At q.1 t) same.1 q.5,
            )

    -- ---- the outcome

    pub no_format : (text rest behind : List ℕ) (old : List A) → HasRead text rest old
        → SkipsPlain mark rest (mark ∷ behind) → ((d : D) (after : List ℕ) → At d (mark ∷ behind) after → ⊥)
        → (ds : List D) → IsFormat mark At ds text → ⊥
    no_format text rest behind old so_far plain none ds format =
        let p = so_far.back ds format in
        let q = begins_with p.0 rest behind plain p.2 in
        none q.0 q.2 q.4

    ended : (rest : List ℕ) (more : List D) → SkipsPlain mark rest [] → IsFormat mark At more rest → more ≡ []
    ended rest [] end f = refl
    ended rest (d ∷ more) end (at, after, skips, x, others) =
        let begin : (b : List ℕ) × (at ≡ mark ∷ b) = laws.begins d at after x in
        absurd (never_plain mark skips.plain begin.0 end.plain end.no_mark
        (ap (λ (t : List ℕ). skips.plain ++ t) (sym begin.1) ∙ sym skips.text_is ∙ end.text_is ∙ append-nil end.plain))

    pub read_all : (text rest : List ℕ) (asked : List A) (so_far : HasRead text rest asked) → SkipsPlain mark rest []
        → IsFormat mark At so_far.directives text
    read_all text rest asked so_far end =
        subst (λ (ds : List D). IsFormat mark At ds text) (append-nil so_far.directives) (so_far.on [] end)

    pub asked_by_all : (text rest : List ℕ) (asked : List A) → HasRead text rest asked → SkipsPlain mark rest []
        → (ds : List D) → IsFormat mark At ds text → flat_map asks ds ≡ asked
    asked_by_all text rest asked so_far end ds format =
        let p = so_far.back ds format in
        let directives : ds ≡ so_far.directives = p.1 ∙ ap (λ (more : List D). so_far.directives ++ more)
        (ended rest p.0 end p.2) ∙ append-nil so_far.directives in
        ap (λ (es : List D). flat_map asks es) directives ∙ sym so_far.asked_is

    pub step_shorter : (text behind after : List ℕ) (d : D) → SkipsPlain mark text (mark ∷ behind)
        → At d (mark ∷ behind) after → length after < length text
    step_shorter text behind after d plain x = omega (
      arith,
      laws.shorter d (mark ∷ behind) after x,
      ap length plain.text_is,
      length-append plain.plain (mark ∷ behind),
    )

    -- ---- one outcome

    one_format : (ds es : List D) (text : List ℕ) → IsFormat mark At ds text → IsFormat mark At es text → ds ≡ es
    one_format [] es text end f = sym (ended text es end f)
    one_format (d ∷ ds) es text (at, after, skips, x, others) f =
        let begin : (b : List ℕ) × (at ≡ mark ∷ b) = laws.begins d at after x in
        let plain : SkipsPlain mark text (mark ∷ begin.0) =
        subst (λ (t : List ℕ). SkipsPlain mark text t) begin.1 skips in
        let here : At d (mark ∷ begin.0) after = subst (λ (t : List ℕ). At d t after) begin.1 x in
        let q = begins_with es text begin.0 plain f in
        let same = laws.one d q.0 (mark ∷ begin.0) after q.2 here q.4 in
        let ih = one_format ds q.1 after others (subst (λ (t : List ℕ). IsFormat mark At q.1 t) (sym same.1) q.5) in
        ap (λ (c : D). c ∷ ds) same.0 ∙ ap (λ (more : List D). q.0 ∷ more) ih ∙ sym q.3

    pub one_asked : (ds es : List D) (text : List ℕ) → IsFormat mark At ds text → IsFormat mark At es text
        → flat_map asks ds ≡ flat_map asks es
    one_asked ds es text f g = ap (λ (directives : List D). flat_map asks directives) (one_format ds es text f g)

  -- ---- arguments with names

  module _ (asks : D → List Argument) where
    pub unreadable : (text rest behind : List ℕ) (old : List Argument) → HasRead asks text rest old
        → SkipsPlain mark rest (mark ∷ behind) → ((d : D) (after : List ℕ) → At d (mark ∷ behind) after → ⊥)
        → (asked : List Argument) → Asks mark At asks text asked → ⊥
    unreadable text rest behind old so_far plain none asked (ds, format, same, consistent) =
        no_format asks text rest behind old so_far plain none ds format

    pub has_signature : (text rest : List ℕ) (asked : List Argument) → HasRead asks text rest asked
        → SkipsPlain mark rest [] → is_consistent asked ≡ true → Asks mark At asks text asked
    has_signature text rest asked so_far end consistent =
        (so_far.directives, read_all asks text rest asked so_far end, so_far.asked_is, consistent)

    pub inconsistent : (text rest : List ℕ) (asked : List Argument) → HasRead asks text rest asked
        → SkipsPlain mark rest [] → is_consistent asked ≡ false → (others : List Argument)
        → Asks mark At asks text others → ⊥
    inconsistent text rest asked so_far end bad others (ds, format, same, consistent) =
        let equal : others ≡ asked = same ∙ asked_by_all asks text rest asked so_far end ds format in
        let here : is_consistent asked ≡ true =
        subst (λ (a : List Argument). is_consistent a ≡ true) equal consistent in
        absurd (cc (here, bad))

    pub one_signature : (text : List ℕ) (asked others : List Argument) → Asks mark At asks text asked
        → Asks mark At asks text others → asked ≡ others
    one_signature text asked others (ds, f, e, consistent) (es, g, h, also) =
        e ∙ one_asked asks ds es text f g ∙ sym h
