-- Tokens taken by the parser, one after another.
use Rattle.po_text.proofs.Kit.{◌≡◌, ℕ, Bool, true, false, List, [], ◌∷◌, ◌++◌, map, Option, Some, None, refl, sym, ap}
use Rattle.po_text.proofs.Kit.{◌∙◌, subst, inl, inr, append_assoc, ◌⊎◌, option_map, Flags, PoKind, Token, Context, Id}
use Rattle.po_text.proofs.Kit.{Mark, Lexeme, Spells, Entry, Derives, ClosesAt, Stage, Start, ContextWord}
use Rattle.po_text.proofs.Kit.{IdWord, stage_view, IsBoundary, flags_over, no_flags, Draft}
use Rattle.po_text.proofs.Kit.{draft_of, begin, State, at_state, drafts_at, opens, opens_id, after, start, some_if}
use Rattle.po_text.proofs.Kit.{HasEnd, token_view, gap_marks, HasParsed, Reads, IsFaulty, BadOrder}
use Rattle.po_text.specs.declared.lexer.Token as code_token
use Rattle.po_text.specs.declared.stages.Stage as code
use Rattle.po_text.specs.declared.stages.Stage.TheVariants as stages
use Rattle.po_text.specs.Entries.{EndsEarly}
use Rattle.po_text.specs.Stages.{step}
use Rattle.po_text.specs.Building.{feed_at}
use Rattle.po_text.specs.Lexing.{HasNext}
use Rattle.po_text.specs.Parsing.{HasTaken, is_context_word, ParsesOn, HasTakenTo}
use Rattle.po_text.specs.Parsing.{pending_draft, EndsRight, Refused, refusal}
use Rattle.po_text.specs.declared.fault.PoFault.{PoFault}
use Rattle.po_text.specs.Lawful.{HasItsForms}
use Rattle.po_text.proofs.Lawful.{derived_forms}
use Rattle.po_text.proofs.Drafts.{split_last, snoc_drafts, draft_one, drafts_one}
use Rattle.po_text.proofs.Faults.{refused_closes, ends_early}
use Rattle.po_text.specs.declared.parser.Parser.{Parser}
use Rattle.po_text.proofs.LexemeLemmas.{lexemes_push, lexemes_end, lexeme_of}
use Rattle.po_text.proofs.Feeding.{feeds-over, put_together}

-- ---- opening tokens

opens_with_context : (p q : Stage) → step p Context ≡ Some q → IsBoundary p × (q ≡ ContextWord)
unfolding step
opens_with_context Start q e = (tt, sym (cc e))
opens_with_context _ q e = (first_of (cc e, search), sym (cc e))

opens_with_id : (p q : Stage) (c : Option (List ℕ)) → step p Id ≡ Some q → opens_id p ≡ Some c → IsBoundary p
    × (q ≡ IdWord) × (c ≡ None)
unfolding step
opens_with_id Start q c e f = (tt, sym (cc e), sym (cc f))
opens_with_id _ q c e f = (first_of (cc (e, f), search), sym (cc (e, f)), sym (cc (e, f)))

pub opens_to : (p : Stage) (t : Token) (q : Stage) (c : Option (List ℕ)) → step p t ≡ Some q → opens t p ≡ Some c
    → IsBoundary p × (((q ≡ ContextWord) × (c ≡ Some [])) ⊎ ((q ≡ IdWord) × (c ≡ None)))
opens_to p Context q c e f = let h = opens_with_context p q e in (h.0, inl (h.1, sym (cc f)))
opens_to p Id q c e f = let h = opens_with_id p q c e f in (h.0, inr (h.1, h.2))
opens_to p _ q c e f = absurd (cc f)

view_context : (p : code.Stage) (n m : ℕ) → stage_view p n ≡ ContextWord → (stage_view p n ≡ stage_view p m)
    × (is_context_word p ≡ true)
view_context stages.ContextWord n m e = (refl, refl)
view_context _ n m e = absurd (cc e)

view_id : (p : code.Stage) (n m : ℕ) → stage_view p n ≡ IdWord → (stage_view p n ≡ stage_view p m)
    × (is_context_word p ≡ false)
view_id stages.IdWord n m e = (refl, refl)
view_id _ n m e = absurd (cc e)

-- the stage to which an opening token leads doesn't depend on the count
pub opens_view : (p : Stage) (t : Token) (q : code.Stage) (n m : ℕ) (c : Option (List ℕ)) → step p t
    ≡ Some (stage_view q n) → opens t p ≡ Some c → (stage_view q n ≡ stage_view q m)
    × (c ≡ some_if (is_context_word q) [])
opens_view p t q n m c e f = elim (opens_to p t (stage_view q n) c e f).1 [
  | inl h ↦ let v = view_context q n m h.0 in (v.0, h.1 ∙ ap (λ (b : Bool). some_if b []) (sym v.1))
  | inr h ↦ let v = view_id q n m h.0 in (v.0, h.1 ∙ ap (λ (b : Bool). some_if b []) (sym v.1))
]

pub feed_open : (p : Stage) (t : Token) (q : code.Stage) (n m : ℕ) (c : Option (List ℕ)) (done : List Draft) (d : Draft)
    (g : Flags) (k line : ℕ) → step p t ≡ Some (stage_view q n) → opens t p ≡ Some c
    → feed_at (at_state p done d g k) [] line t ≡ Some (at_state (stage_view q m) (drafts_at p done d)
    (begin line g (some_if (is_context_word q) [])) no_flags line)
feed_open p t q n m c done d g k line e f =
    let v = opens_view p t q n m c e f in
    ap (λ (o : Option Stage). option_map (λ (x : Stage). after (opens t p) (at_state p done d g k) [] line t x) o) e
    ∙ ap (λ (o : Option (Option (List ℕ))). Some (after o (at_state p done d g k) [] line t (stage_view q n))) f
    ∙ ap (λ (x : Stage). Some (at_state x (drafts_at p done d) (begin line g c) no_flags line)) v.0
    ∙ ap (λ (x : Option (List ℕ)). Some (at_state (stage_view q m) (drafts_at p done d) (begin line g x) no_flags line))
    v.1

-- ---- one more lexeme

-- the marks of the gap may be counted before the token
feed_flags : (o : Option (Option (List ℕ))) (p : Stage) (done : List Draft) (d : Draft) (f : Flags) (k : ℕ)
    (marks : List Mark) (line : ℕ) (t : Token) (q : Stage)
    → after o (at_state p done d f k) marks line t q ≡ after o (at_state p done d (flags_over f marks) k) [] line t q
feed_flags None p done d f k marks line t q = refl
feed_flags (Some c) p done d f k marks line t q = refl

feed_flags_at : (o : Option Stage) (p : Stage) (done : List Draft) (d : Draft) (f : Flags) (k : ℕ) (marks : List Mark)
    (line : ℕ) (t : Token)
    → option_map (λ (q : Stage). after (opens t p) (at_state p done d f k) marks line t q) o
    ≡ option_map (λ (q : Stage). after (opens t p) (at_state p done d (flags_over f marks) k) [] line t q) o
feed_flags_at None p done d f k marks line t = refl
feed_flags_at (Some q) p done d f k marks line t = ap Some (feed_flags (opens t p) p done d f k marks line t q)

pub taken_push : (text : List ℕ) (b c : ℕ) (m t : List ℕ) (p : Stage) (done : List Draft) (d : Draft) (f g : Flags)
    (k : ℕ) (s : State) (token : code_token.Token) (bytes : List ℕ) → HasTaken text b m (at_state p done d f k)
    → HasNext token bytes f b m g c t
    → feed_at (at_state p done d g k) [] c (token_view token bytes) ≡ Some s → HasTaken text c t s
taken_push text b c m t p done d f g k s token bytes h next e =
    let l = lexeme_of token bytes c next.gap.pieces in
    record {
      found = h.found ++ l ∷ [];
      takes = lexemes_push h.found 1 b c text m t f g token bytes h.takes next;
      last = inr (h.found, l, refl, refl);
      fed = feeds-over (Some start) (Some (at_state p done d f k)) (Some s) h.found (l ∷ []) h.fed (
          feed_flags_at (step p (token_view token bytes)) p done d f k (gap_marks next.gap.pieces) c
          (token_view token bytes)
          ∙ ap (λ (x : Flags). feed_at (at_state p done d x k) [] c (token_view token bytes)) (sym next.gap.flags)
          ∙ e);
    }

pub at_start : (p : Stage) (done : List Draft) (d : Draft) → p ≡ Start → drafts_at p done d ≡ done
at_start p done d e = ap (λ (x : Stage). drafts_at x done d) e

-- ---- what the parser has read

true_false : (b : Bool) {A : Type 0} → b ≡ true → b ≡ false → A
true_false b e f = absurd (cc (e, f))

-- the entry under way has its forms
under_way_forms : (text : List ℕ) (entries : List Entry) (line : ℕ) (rest : List ℕ) (p : Stage) (e : Entry) (f : Flags)
    (k : ℕ) → HasTaken text line rest (at_state p (map draft_of entries) (draft_of e) f k) → IsBoundary p
    → drafts_at p (map draft_of entries) (draft_of e) ≡ map draft_of entries ++ (draft_of e ∷ [])
    → HasItsForms e
under_way_forms text entries line rest p e f k h b last =
    let (es, derives, is) = put_together h.found (at_state p (map draft_of entries) (draft_of e) f k) h.fed b in
    let (other, same, forms) = split_last HasItsForms (map draft_of entries) (draft_of e) es
    (derived_forms es ([], h.found) (derives.0, []) derives.1) (sym last ∙ is) in
    subst HasItsForms (sym (draft_one e other same)) forms

-- the next entry's opening keyword was taken
pub opening_goes_on : (text : List ℕ) (entries : List Entry) (line : ℕ) (rest : List ℕ) (p : Stage) (e : Entry)
    (f : Flags) (k : ℕ) (new : Parser)
    → HasTaken text line rest (at_state p (map draft_of entries) (draft_of e) f k) → IsBoundary p
    → drafts_at p (map draft_of entries) (draft_of e) ≡ map draft_of entries ++ (draft_of e ∷ [])
    → HasTakenTo text (map draft_of entries ++ (draft_of e ∷ [])) (pending_draft new) new → new.finished ≡ false
    → ParsesOn true text entries e new
opening_goes_on text entries line rest p e f k new h b last taken finished = (
  under_way_forms text entries line rest p e f k h b last,
  record {
    under_way = λ not_finished. subst (λ (x : List Draft). HasTakenTo text x (pending_draft new) new)
        (sym (snoc_drafts entries e (draft_of e) refl)) taken;
    at_end = λ done. true_false new.finished done finished;
  },
)

at_end_read : (text : List ℕ) (entries : List Entry) (r : Parser) → r.finished ≡ true → Reads text entries
    → HasParsed text entries r
at_end_read text entries r done reads = record {
  under_way = λ not_done. true_false r.finished done not_done;
  at_end = λ
      _. reads;
}

-- the text ended where it may end
pub end_goes_on : (ended : Bool) (text : List ℕ) (entries : List Entry) (line : ℕ) (rest : List ℕ) (old new : Parser)
    (e : Entry) (f : Flags) (k : ℕ)
    → HasTaken text line rest (at_state (stage_view old.stage old.count) (map draft_of entries) (draft_of e) f k)
    → HasEnd f line rest → EndsRight ended old → new.finished ≡ true → ParsesOn ended text entries e new
end_goes_on true text entries line rest old new e f k h end (b, last) done =
    let p = stage_view old.stage old.count in
    let (es, derives, is) = put_together h.found (at_state p (map draft_of entries) (draft_of e) f k) h.fed b in
    let all : es ≡ entries ++ (e ∷ []) = drafts_one es (entries ++ (e ∷ []))
    (sym is ∙ last (map draft_of entries) (draft_of e) ∙ sym (snoc_drafts entries e (draft_of e) refl)) in
    let reads : Reads text (entries ++ (e ∷ [])) = (
      h.found,
      lexemes_end h.found line text rest f h.takes end,
      subst
          (λ (x : List Entry). Derives h.found x) all derives,
    ) in (
      under_way_forms text entries line rest p e f k h b (last (map draft_of entries) (draft_of e)),
      at_end_read text
          (entries ++ (e ∷ [])) new done reads,
    )
end_goes_on false text entries line rest old new e f k h end empty done =
    let p = stage_view old.stage old.count in
    let (es, derives, is) = put_together h.found (at_state p (map draft_of entries) (draft_of e) f k) h.fed
    (subst (λ (x : Stage). IsBoundary x) (sym empty) tt) in
    let all : es ≡ entries = drafts_one es entries (sym is ∙ ap
    (λ (x : Stage). drafts_at x (map draft_of entries) (draft_of e)) empty) in
    let reads : Reads text entries = (
      h.found,
      lexemes_end h.found line text rest f h.takes end,
      subst
          (λ (x : List Entry). Derives h.found x) all derives,
    ) in
    (reads, at_end_read text entries new done reads)

-- the text ended in the middle of an entry
pub end_is_faulty : (text : List ℕ) (line : ℕ) (rest : List ℕ) (p : Stage) (done : List Draft) (d : Draft) (f : Flags)
    (k : ℕ) (kind : PoKind) (at : ℕ) → HasTaken text line rest (at_state p done d f k) → HasEnd f line rest
    → ¬ IsBoundary p → kind ≡ BadOrder → at ≡ line → IsFaulty text kind at
end_is_faulty text line rest p done d f k kind at h end inside is line_is =
    inr (
      h.found,
      lexemes_end h.found line text rest f h.takes end,
      inr (
        is,
        subst (λ (x : ℕ). EndsEarly h.found x) (sym line_is)
            (ends_early h.found (at_state p done d f k) line h.fed inside h.last),
      ),
    )

-- a token isn't allowed here
pub taken_refused : (text : List ℕ) (b c : ℕ) (m t : List ℕ) (p : Stage) (done : List Draft) (d : Draft) (f g : Flags)
    (k : ℕ) (token : code_token.Token) (bytes : List ℕ) → HasTaken text b m (at_state p done d f k)
    → HasNext token bytes f b m g c t
    → step p (token_view token bytes) ≡ None → Refused text c t p k (token_view token bytes)
taken_refused text b c m t p done d f g k token bytes h next e = record {
  found = h.found;
  x = lexeme_of token bytes c next.gap.pieces;
  s = at_state p done d f k;
  takes = lexemes_push h.found 1 b c text m t f g token bytes h.takes next;
  fed = h.fed;
  stage = refl;
  keyword = refl;
  token = refl;
  line_is = refl;
  refused = e;
}

pub refused_is_faulty : (text : List ℕ) (line : ℕ) (rest : List ℕ) (p : Stage) (k : ℕ) (t : Token) (fault : PoFault)
    → (h : Refused text line rest p k t) → (more : List Lexeme) → Spells text ((h.found ++ (h.x ∷ [])) ++ more) → fault
    ≡ refusal t p line k → IsFaulty text fault.kind fault.line
refused_is_faulty text line rest p k t fault h more spells is =
    let token = h.token in
    let stage = h.stage in
    let at : step h.s.stage h.x.token ≡ None = ap (λ (x : Token). step h.s.stage x) h.token
    ∙ ap (λ (x : Stage). step x t) h.stage ∙ h.refused in
    let closes = refused_closes h.found more h.x h.s h.fed at in
    let same : refusal h.x.token h.s.stage h.x.line h.s.keyword ≡ fault
    = ap (λ (x : Token). refusal x h.s.stage h.x.line h.s.keyword) h.token
    ∙ ap (λ (x : Stage). refusal t x h.x.line h.s.keyword) h.stage
    ∙ ap (λ (x : ℕ). refusal t p x h.s.keyword) h.line_is ∙ ap (λ (x : ℕ). refusal t p line x) h.keyword ∙ sym is in
    inr (
      h.found ++ (h.x ∷ more),
      subst (λ (x : List Lexeme). Spells text x) (append_assoc h.found (h.x ∷ []) more)
          spells,
      inl (subst (λ (x : PoFault). ClosesAt (h.found ++ (h.x ∷ more)) x.kind x.line) same closes),
    )
