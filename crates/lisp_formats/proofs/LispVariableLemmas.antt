-- The arguments for parameters, taken one by one.
use Rattle.std.proofs.Common.{◌≡◌, Bool, true, false, List, [], ◌∷◌, ◌++◌, Option, None, Some, refl, sym, ap, ◌∙◌}
use Rattle.std.proofs.Common.{append_assoc}
use Rattle.std.proofs.lemmas.List.{append-nil}
use Rattle.lisp_formats.specs.declared.Kind.{Kind}
use Rattle.lisp_formats.specs.declared.parameters.Parameter.{Parameter}
use Rattle.lisp_formats.specs.LispDirectives.{next_expected, allows, argument_for, and_then, variables}

pub nothing_taken : (found : Option (List Kind)) → and_then [] found ≡ found
nothing_taken None = refl
nothing_taken (Some kinds) = refl

taken_both : (old new : List Kind) (found : Option (List Kind))
    → and_then (old ++ new) found ≡ and_then old (and_then new found)
taken_both old new None = refl
taken_both old new (Some kinds) = ap (λ (all : List Kind). Some all) (append_assoc old new kinds)

-- a parameter that may stand there
pub takes_more : (left later : List Kind) (kind : Kind) (ps more : List Parameter) (p : Parameter) (old new : List Kind)
    (whole : Option (List Kind)) → and_then old (variables left ps) ≡ whole → ps ≡ p ∷ more
    → (kind, later) ≡ next_expected left → allows kind p ≡ true → new ≡ old ++ argument_for kind p
    → and_then new (variables later more) ≡ whole
takes_more left later kind ps more p old new whole so_far cut next allowed is =
    let opened : variables left (p ∷ more) ≡ and_then (argument_for kind p) (variables later more) =
    rw (sym next, allowed) refl in
    ap (λ (ks : List Kind). and_then ks (variables later more)) is
    ∙ taken_both old (argument_for kind p) (variables later more) ∙ ap (and_then old) (sym opened)
    ∙ ap (λ (qs : List Parameter). and_then old (variables left qs)) (sym cut) ∙ so_far

-- a parameter that may not
pub takes_none : (left later : List Kind) (kind : Kind) (ps more : List Parameter) (p : Parameter) (old : List Kind)
    (whole : Option (List Kind)) → and_then old (variables left ps) ≡ whole → ps ≡ p ∷ more
    → (kind, later) ≡ next_expected left → allows kind p ≡ false → None ≡ whole
takes_none left later kind ps more p old whole so_far cut next refused =
    let opened : variables left (p ∷ more) ≡ None = rw (sym next, refused) refl in
    ap (and_then old) (sym opened) ∙ ap (λ (qs : List Parameter). and_then old (variables left qs)) (sym cut) ∙ so_far

-- the end of the parameters
pub takes_all : (left : List Kind) (ps : List Parameter) (old : List Kind) (whole : Option (List Kind))
    → and_then old (variables left ps) ≡ whole → ps ≡ [] → Some old ≡ whole
takes_all left ps old whole so_far end = ap (λ (all : List Kind). Some all) (sym (append-nil old))
    ∙ ap (λ (qs : List Parameter). and_then old (variables left qs)) (sym end) ∙ so_far
