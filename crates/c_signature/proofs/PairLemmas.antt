-- Two formats that are read side by side.
use Rattle.std.proofs.Common.{◌≡◌, ℕ, List, [], ◌∷◌, ◌++◌, map, Bool, Option, None, Some, refl, sym, ap, inl}
use Rattle.std.specs.Prelude.{IsTrue, is_some, not}
use Rattle.std.specs.List.{flat_map}
use Rattle.std.proofs.lemmas.List.{flat_map_more}
use Rattle.c_signature.specs.declared.ArgKind.{ArgKind}
use Rattle.c_signature.specs.declared.directives.Directive as code_directive
use Rattle.c_signature.specs.declared.Size.TheVariants.{Plain}
use Rattle.c_signature.specs.Pieces.{Of, percent}
use Rattle.c_signature.specs.Conversions.{Argument, Undefined, Nothing, One, argument_of}
use Rattle.c_signature.specs.Directives.{Directive, IsAllowed}
use Rattle.c_signature.specs.Signature.{Request, request, requests, argument_requests, Cuts, SkipsPlain, TakeSame}
use Rattle.c_signature.specs.FormatScanning.{ReadsDirective, ReadSame, AskSame, asked_by}
use Rattle.c_signature.proofs.RequestLemmas.{next_in_order}
use Rattle.c_signature.proofs.FormatLemmas.{cuts_push}
use Rattle.c_signature.proofs.PlainDirectives.{reads_plain}

abbrev in_order : List ArgKind → List Request
in_order kinds = map (λ kind. request None kind) kinds

in_order_append : (kinds more : List ArgKind) → in_order (kinds ++ more) ≡ in_order kinds ++ in_order more
in_order_append [] more = refl
in_order_append (kind ∷ kinds) more = ap (λ (t : List Request). request None kind ∷ t) (in_order_append kinds more)

pub same_append : (xs ys more others : List Request) → AskSame xs ys → AskSame more others
    → AskSame (xs ++ more) (ys ++ others)
same_append xs ys more others (kinds, x, y) (later, m, o) = (
  kinds ++ later,
  rw (x, m) (sym (in_order_append kinds later)),
  rw (y, o) (sym (in_order_append kinds later)),
)

pub no_value : {A : Type 0} (o : Option A) (lacks : Bool) → is_some o ≡ not lacks → IsTrue lacks → o ≡ None
no_value None lacks is e = refl
no_value (Some x) lacks is e = absurd (cc (rw e at is))

-- both texts are plain pieces and directives up to here, which ask for the same
pub record ReadBoth (first second rest others : List ℕ) : Type 0 where
  pub directives : List Directive
  pub twins : List Directive
  pub cut : Cuts directives first rest
  pub twin_cut : Cuts twins second others
  pub same : AskSame (flat_map requests directives) (flat_map requests twins)

-- two directives that were read ask for the same
pub read_same : (first second rest others : List ℕ) (directive twin : code_directive.Directive)
    → ReadsDirective directive first rest → ReadsDirective twin second others
    → AskSame (asked_by directive) (asked_by twin) → ReadSame first second rest others
read_same first second rest others directive twin (d, here, is) (e, there, is_too) same = (
  d,
  e,
  here,
  there,
  rw (is, is_too) same,
)

asks_alone : (argument : Argument) → AskSame (argument_requests None argument) (argument_requests None argument)
asks_alone Undefined = ([], refl, refl)
asks_alone Nothing = ([], refl, refl)
asks_alone (One kind) = (kind ∷ [], refl, refl)

-- the same conversion in both texts
pub plain_same : (first second rest others : List ℕ) (c other : ℕ) (argument : Argument) → first ≡ c ∷ rest
    → second ≡ other ∷ others → c ≡ other → argument ≡ argument_of c (Of Plain) → IsAllowed argument None
    → ReadSame (percent ∷ first) (percent ∷ second) rest others
plain_same first second rest others c other argument begins too same is allowed =
    let (d, here, asks) = reads_plain first rest c argument begins is allowed in
    let (e, there, asks_too) = reads_plain second others other argument too (rw (← same) is) allowed in
    (d, e, here, there, rw (asks, asks_too) (asks_alone argument))

pub both_on : (first second rest others at beyond after over : List ℕ) → ReadBoth first second rest others
    → SkipsPlain rest at → SkipsPlain others beyond → ReadSame at beyond after over
    → ReadBoth first second after over
both_on first second rest others at beyond after over so_far plain skips (d, e, here, there, next) = record {
  directives = so_far.directives ++ d ∷ [];
  twins = so_far.twins ++ e ∷ [];
  cut = cuts_push so_far.directives d first rest at after so_far.cut plain here;
  twin_cut = cuts_push so_far.twins e second others beyond over so_far.twin_cut skips there;
  same = rw (← flat_map_more requests [] so_far.directives d, ← flat_map_more requests [] so_far.twins e)
      (same_append (flat_map requests so_far.directives) (flat_map requests so_far.twins) (requests d) (requests e)
      so_far.same next);
}

pub both_end : (first second rest others : List ℕ) → ReadBoth first second rest others → SkipsPlain rest []
    → SkipsPlain others [] → TakeSame first second
both_end first second rest others so_far end stop =
    let (kinds, asked, too) = so_far.same in (
      kinds,
      (
        so_far.directives,
        record { last = rest; cut = so_far.cut; end = end },
        inl (rw asked (next_in_order kinds)),
      ),
      (
        so_far.twins,
        record { last = others; cut = so_far.twin_cut; end = stop },
        inl (rw too (next_in_order kinds)),
      ),
    )
