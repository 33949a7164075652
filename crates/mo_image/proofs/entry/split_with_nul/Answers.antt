use Rattle.mo_image.proofs.Kit.{List, ℕ, Option, take, length, ◌+◌, refl, subst, IfSome}
use Rattle.mo_image.specs.Lent.{IsCutWithNul}
use Rattle.mo_image.proofs.Closing.{front_with_nul}
use Rattle.mo_image.proofs.entry.split_with_nul.Goals as goal

pub returns-in-Some : goal.returns-in-Some
returns-in-Some c =
    let form = c.in-Some.form.now in
    let others = c.in-Some.others.now in
    let P : Option (List ℕ × List ℕ) → Type 0 =
    λ parts. IfSome parts (λ p. IsCutWithNul p (take (length form + 1) c.as_bytes.result.now) others) in
    let told = c.in-Some.ensures in
    subst P told.cut (record {
      form = rw c.as_bytes.ensures.value (front_with_nul c.args.forms.now form others told.cases);
      others = refl;
    })
