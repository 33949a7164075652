-- Whole texts: at most one list of arguments, and the list of a text without macros.
use Rattle.std.proofs.Common.{◌≡◌, ℕ, zero, suc, List, [], ◌∷◌, ◌++◌, map, length, Some}
use Rattle.std.proofs.Common.{refl, sym, ap, subst, ◌∙◌, arith, inl, inr}
use Rattle.std.specs.Prelude.{slice_get}
use Rattle.std.specs.List.{flat_map}
use Rattle.format_arguments.specs.Text.{IsFormat, SkipsPlain}
use Rattle.format_arguments.proofs.TextLemmas.{one_asked}
use Rattle.c_signature.specs.Directives as c
use Rattle.c_signature.specs.Signature as plain
use Rattle.c_signature.specs.declared.ArgKind.{ArgKind}
use Rattle.c_signature.proofs.RequestLemmas.{contains_map, map_contains}
use Rattle.c_macros.specs.MacroDirectives.{Spelled, DirectiveAt, requests, plain_request, Kind, Plain, Request}
use Rattle.c_macros.specs.MacroFormat.{HasPlace, AsksFor, Lists, percent}
use Rattle.c_macros.proofs.MacroDirectiveLemmas.{are_directives}
use Rattle.c_macros.proofs.ListLemmas.{one_list}

pub lists_one : (text : List ℕ) (kinds others : List Kind) → Lists text kinds → Lists text others → kinds ≡ others
lists_one text kinds others (ds, f, p) (es, g, q) =
    one_list (flat_map requests es) kinds others (subst (λ (asked : List Request). AsksFor asked kinds)
    (one_asked percent DirectiveAt are_directives requests ds es text f g) p) q

-- ---- a text without macros

skips : (text rest : List ℕ) → plain.SkipsPlain text rest → SkipsPlain percent text rest
skips text rest s = record { plain = s.plain; text_is = s.text_is; no_mark = s.no_percent }

plain_format : (ds : List c.Directive) (text last : List ℕ) → plain.Cuts ds text last → plain.SkipsPlain last []
    → IsFormat percent DirectiveAt (map Spelled ds) text
plain_format [] text last e end = skips text [] (subst (λ (t : List ℕ). plain.SkipsPlain t []) (sym e) end)
plain_format (d ∷ ds) text last (at, after, s, x, more) end =
    (at, after, skips text at s, x, plain_format ds after last more end)

map_append : (xs ys : List plain.Request) → map plain_request (xs ++ ys) ≡ map plain_request xs ++ map plain_request ys
map_append [] ys = refl
map_append (x ∷ xs) ys = ap (λ (t : List Request). plain_request x ∷ t) (map_append xs ys)

plain_one : (d : c.Directive) → requests (Spelled d) ≡ map plain_request (plain.requests d)
plain_one d =
    let w = plain.amount_requests d.head.width in
    let p = plain.amount_requests d.head.precision in
    let own = plain.argument_requests d.head.number (c.own_argument d) in
    sym (map_append (w ++ p) own ∙ ap (λ (t : List Request). t ++ map plain_request own) (map_append w p))

plain_requests : (ds : List c.Directive) → flat_map requests (map Spelled ds)
    ≡ map plain_request (flat_map plain.requests ds)
plain_requests [] = refl
plain_requests (d ∷ ds) =
    ap (λ (t : List Request). t ++ flat_map requests (map Spelled ds)) (plain_one d)
    ∙ ap (λ (t : List Request). map plain_request (plain.requests d) ++ t) (plain_requests ds)
    ∙ sym (map_append (plain.requests d) (flat_map plain.requests ds))

plain_kinds : (asked : List plain.Request) → map Plain (map (λ r. r.kind) asked)
    ≡ map (λ r. r.kind) (map plain_request asked)
plain_kinds [] = refl
plain_kinds (r ∷ more) = ap (λ (t : List Kind). Plain r.kind ∷ t) (plain_kinds more)

plain_get : (kinds : List ArgKind) (i : ℕ) (kind : ArgKind) → slice_get kinds i ≡ Some kind
    → slice_get (map Plain kinds) i ≡ Some (Plain kind)
plain_get [] i kind e = absurd (cc e)
plain_get (k ∷ kinds) zero kind e = let same : k ≡ kind = cc e in ap (λ (a : ArgKind). Some (Plain a)) same
plain_get (k ∷ kinds) (suc i) kind e = plain_get kinds i kind e

plain_place : (kinds : List ArgKind) (r : plain.Request) → plain.HasPlace kinds r
    → HasPlace (map Plain kinds) (plain_request r)
plain_place kinds r (i, e, at) = (i, e, plain_get kinds i r.kind at)

plain_length : (kinds : List ArgKind) → length (map Plain kinds) ≡ length kinds
plain_length [] = refl
plain_length (k ∷ kinds) = ap suc (plain_length kinds)

plain_asks : (asked : List plain.Request) (kinds : List ArgKind) → plain.AsksFor asked kinds
    → AsksFor (map plain_request asked) (map Plain kinds)
plain_asks asked kinds (inl order) = inl (record {
  unnumbered = λ r c.
      let there = contains_map plain_request asked r c in
      sym (ap (λ (q : Request). q.number) there.2) ∙ order.unnumbered there.0 there.1;
  kinds_are = ap (λ (t : List ArgKind). map Plain t) order.kinds_are ∙ plain_kinds asked;
})
plain_asks asked kinds (inr number) = inr (record {
  placed = λ r c.
      let there = contains_map plain_request asked r c in
      subst (λ (q : Request). HasPlace (map Plain kinds) q) there.2
      (plain_place kinds there.0 (number.placed there.0 there.1));
  complete = λ i lt.
      let there = number.complete i (omega (arith, lt, plain_length kinds)) in
      (plain_request there.0, map_contains plain_request asked there.0 there.1, there.2);
})

pub plain_lists : (text : List ℕ) (kinds : List ArgKind) → plain.Lists text kinds → Lists text (map Plain kinds)
plain_lists text kinds (ds, f, p) = (
  map Spelled ds,
  plain_format ds text f.last f.cut f.end,
  subst (λ (asked : List Request). AsksFor asked (map Plain kinds)) (sym (plain_requests ds))
      (plain_asks (flat_map plain.requests ds) kinds p),
)
