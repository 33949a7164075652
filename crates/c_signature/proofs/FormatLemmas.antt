-- A text, cut into plain pieces and directives from the front.
use Rattle.std.proofs.Common.{◌≡◌, ℕ, ◌+◌, ◌-◌, ◌<◌, ◌≤◌, true, List, [], ◌∷◌, ◌++◌, length, take}
use Rattle.std.proofs.Common.{drop, get_or, refl, sym, ap, subst, ◌∙◌, arith, inl, inr}
use Rattle.std.specs.Prelude.{◌==◌}
use Rattle.std.specs.List.{list_all, flat_map}
use Rattle.std.proofs.lemmas.List.{append-nil, take-append-drop, take_rest, drop_more, length-append}
use Rattle.std.proofs.lemmas.List.{flat_map_more, take_all, get_or-take, length-take-le}
use Rattle.std.proofs.lemmas.List.Sums.{list_all-from_AllPass, fails_before_first, passes_at_first}
use Rattle.std.proofs.lemmas.List.Sums.{prefix_len-le-length}
use Rattle.std.proofs.lemmas.Bool.{eqb-true}
use Rattle.byte_text.specs.Cut.{offset_of}
use Rattle.c_signature.specs.declared.ArgKind.{ArgKind}
use Rattle.c_signature.specs.declared.FormatFault.{FormatFault}
use Rattle.c_signature.specs.declared.FormatFault.TheVariants.{Invalid, SystemDependent, Memory}
use Rattle.c_signature.specs.declared.directives.Directive as code_directive
use Rattle.c_signature.specs.declared.requests.Requests.{Requests}
use Rattle.c_signature.specs.Pieces.{Longest, percent}
use Rattle.c_signature.specs.Directives.{Directive, DirectiveAt}
use Rattle.c_signature.specs.Signature.{Request, requests, AsksFor, HasNoList, is_plain}
use Rattle.c_signature.specs.Signature.{SkipsPlain, Cuts, Lists, HasFormatFault}
use Rattle.c_signature.specs.FormatScanning.{Refuses, ReadsDirective, asked_by}
use Rattle.c_signature.specs.Asked.{AddsAsked, KeepsAsked, IsInvalidOnly}

-- ---- the next `%`

plain_before : (text : List ℕ) (n : ℕ) → n ≤ offset_of percent text → list_all is_plain (take n text) ≡ true
plain_before text n le = list_all-from_AllPass is_plain (take n text) (λ k d lt.
    let all : offset_of percent text ≤ length text = prefix_len-le-length is_plain text in
    let within : k < n = omega (arith, length-take-le n text (omega (arith, all))) in
    let here : get_or (take n text) k d ≡ get_or text k d = get_or-take n text k d within in
    rw (here, fails_before_first (λ b. b == percent) text k d (omega (arith, within))) refl)

pub no_percent : (text : List ℕ) (at : ℕ) → at ≡ offset_of percent text → length text ≤ at → SkipsPlain text []
no_percent text at is none =
    let all : offset_of percent text ≤ length text = prefix_len-le-length is_plain text in
    record {
      plain = text;
      text_is = sym (append-nil text);
      no_percent = rw (← take_all (length text) text (omega arith)) (plain_before text (length text)
          (omega (arith, is)));
    }

pub to_percent : (text : List ℕ) (at : ℕ) → at ≡ offset_of percent text → at < length text
    → SkipsPlain text (percent ∷ take (length text - (at + 1)) (drop (at + 1) text))
to_percent text at is lt =
    let here : get_or text at 0 ≡ percent = eqb-true _ _
    (rw is (passes_at_first (λ b. b == percent) text 0 (omega (arith, is)))) in
    let rest : drop at text ≡ percent ∷ drop (at + 1) text = drop_more text at 0 lt
    ∙ ap (λ (b : ℕ). b ∷ drop (at + 1) text) here in
    record {
      plain = take at text;
      text_is = rw (take_rest text (at + 1), ← rest) (sym (take-append-drop at text));
      no_percent = plain_before text at (omega (arith, is));
    }

-- ---- the cut so far

-- the text is plain pieces and directives up to rest, and what they ask for is kept
pub record HasRead (text rest : List ℕ) (kept : Requests) : Type 0 where
  pub directives : List Directive
  pub cut : Cuts directives text rest
  pub holds : KeepsAsked (flat_map requests directives) kept

pub cuts_push : (ds : List Directive) (d : Directive) (text rest at after : List ℕ) → Cuts ds text rest
    → SkipsPlain rest at → DirectiveAt d at after → Cuts (ds ++ d ∷ []) text after
cuts_push [] d text rest at after e plain directive = (
  at,
  after,
  subst (λ (t : List ℕ). SkipsPlain t at) (sym e) plain,
  directive,
  refl,
)
cuts_push (c ∷ ds) d text rest at after (here, behind, skips, first, more) plain directive =
    (here, behind, skips, first, cuts_push ds d behind rest at after more plain directive)

pub reads_on : (text rest at after : List ℕ) (directive : code_directive.Directive) (kept new : Requests)
    → HasRead text rest kept → SkipsPlain rest at → ReadsDirective directive at after
    → AddsAsked kept new (asked_by directive) → HasRead text after new
reads_on text rest at after directive kept new so_far plain (d, here, same) adds = record {
  directives = so_far.directives ++ d ∷ [];
  cut = cuts_push so_far.directives d text rest at after so_far.cut plain here;
  holds = subst (λ (asked : List Request). KeepsAsked asked new) (flat_map_more requests [] so_far.directives d)
      (subst (λ (more : List Request). KeepsAsked (flat_map requests so_far.directives ++ more) new) (sym same)
      (adds (flat_map requests so_far.directives) so_far.holds));
}

-- ---- the end

pub lists_all : (text rest : List ℕ) (kept : Requests) (kinds : List ArgKind) → HasRead text rest kept
    → SkipsPlain rest [] → ((asked : List Request) → KeepsAsked asked kept → AsksFor asked kinds) → Lists text kinds
lists_all text rest kept kinds so_far end list = (
  so_far.directives,
  record
      { last = rest; cut = so_far.cut; end = end },
  list (flat_map requests so_far.directives) so_far.holds,
)

pub none_listed : (text rest : List ℕ) (kept : Requests) (fault : FormatFault) → HasRead text rest kept
    → SkipsPlain rest [] → IsInvalidOnly fault ((asked : List Request) → KeepsAsked asked kept → HasNoList asked)
    → HasFormatFault text fault
none_listed text rest kept Invalid so_far end none = inr (
  so_far.directives,
  record
      { last = rest; cut = so_far.cut; end = end },
  none (flat_map requests so_far.directives) so_far.holds,
)
none_listed text rest kept SystemDependent so_far end none = absurd none
none_listed text rest kept Memory so_far end none = tt

pub stopped : (text rest behind : List ℕ) (kept : Requests) (fault : FormatFault) → HasRead text rest kept
    → SkipsPlain rest (percent ∷ behind) → Refuses fault (percent ∷ behind) → HasFormatFault text fault
stopped text rest behind kept Invalid so_far plain (unreadable, no_macro) = inl (
  percent ∷ behind,
  record {
    directives = so_far.directives;
    last = rest;
    cut = so_far.cut;
    plain = plain;
    unreadable
        = unreadable;
  },
  no_macro,
)
stopped text rest behind kept SystemDependent so_far plain (unreadable, names) = (
  percent ∷ behind,
  record {
    directives = so_far.directives;
    last = rest;
    cut = so_far.cut;
    plain = plain;
    unreadable
        = unreadable;
  },
  names,
)
stopped text rest behind kept Memory so_far plain refused = absurd refused

-- ---- lengths

longest_within : {V : Type 0} (Form : V → List ℕ → Type 0) (v : V) (text rest : List ℕ) → Longest Form v text rest
    → length rest ≤ length text
longest_within Form v text rest p = omega (arith, length-append p.front rest, ap length p.text_is)

pub directive_shorter : (d : Directive) (text rest : List ℕ) → DirectiveAt d text rest → length rest < length text
directive_shorter d text rest x =
    let begins = ap length x.head.begins in
    let number = longest_within _ _ _ _ x.head.number_at in
    let flags = longest_within _ _ _ _ x.head.flags_at in
    let width = longest_within _ _ _ _ x.head.width_at in
    let precision = longest_within _ _ _ _ x.head.precision_at in
    let modifier = longest_within _ _ _ _ x.tail.modifier_at in
    let conversion = ap length x.tail.conversion_at in
    omega (arith, begins, number, flags, width, precision, modifier, conversion)

pub step_shorter : (text at rest : List ℕ) (d : Directive) → SkipsPlain text at → DirectiveAt d at rest
    → length rest < length text
step_shorter text at rest d plain x = omega (
  arith,
  directive_shorter d at rest x,
  ap length plain.text_is,
  length-append plain.plain at,
)

pub reads_shorter : (text at rest : List ℕ) (directive : code_directive.Directive) → SkipsPlain text at
    → ReadsDirective directive at rest → length rest < length text
reads_shorter text at rest directive plain (d, here, same) = step_shorter text at rest d plain here
