-- What directives ask for, collected one by one.
use Rattle.std.proofs.Common.{List, ◌++◌, subst, append_assoc}
use Rattle.numbered_arguments.specs.declared.Request.{Request}
use Rattle.script_formats.specs.declared.adding.Collected.{Collected}
use Rattle.script_formats.specs.Collecting.{HasCollected, Adds}

pub adds_both : (a b c : Collected) (xs ys : List Request) → Adds a b xs → Adds b c ys → Adds a c (xs ++ ys)
adds_both a b c xs ys f g = λ requests h. subst (λ (rs : List Request). HasCollected rs c)
    (append_assoc requests xs ys) (g (requests ++ xs) (f requests h))
