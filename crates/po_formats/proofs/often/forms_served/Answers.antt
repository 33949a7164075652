use Rattle.std.proofs.Common.{◌≡◌, ℕ, ◌∷◌, [], ◌++◌, Bool, List, add-one, ap, sym, ◌∙◌, arith}
use Rattle.std.specs.Prelude.{nat_le}
use Rattle.po_header.specs.Expr.{tree_of}
use Rattle.po_formats.specs.Often.{forms_served}
use Rattle.po_formats.proofs.often.forms_served.Goals as goal

pub forms-preserved : goal.forms-preserved
forms-preserved c =
    let tree = tree_of c.args.expr.now in
    let form = c.forms.form in (
      c.in_ok-push.ensures.items
          ∙ ap (λ (xs : List Bool). xs ++ (nat_le 5 c.numbers_served.result ∷ [])) c.forms.invariant.0
          ∙ ap (λ (n : ℕ). forms_served tree form ++ (nat_le 5 n ∷ [])) c.numbers_served.ensures.is
          ∙ ap (λ (n : ℕ). forms_served tree n) (sym (add-one form)),
      omega (arith, c.forms-test.true),
    )

pub returns : goal.returns
returns c =
    let end : c.forms.form ≡ c.args.nplurals = omega (arith, c.forms.invariant.1, c.forms-test.false) in
    c.forms.invariant.0 ∙ ap (λ (n : ℕ). forms_served (tree_of c.args.expr.now) n) end
