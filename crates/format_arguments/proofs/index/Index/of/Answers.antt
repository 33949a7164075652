use Rattle.std.proofs.Common.{◌≡◌, ap, sym, List, Option, None, ◌∙◌, ℕ}
use Rattle.std.specs.List.{fold}
use Rattle.std.proofs.lemmas.List.{take_all}
use Rattle.std.proofs.lemmas.List.Folds.{fold-map}
use Rattle.std.proofs.lemmas.List.Sums.{fold_more}
use Rattle.format_arguments.specs.declared.kinds.Kinds.{Kinds}
use Rattle.format_arguments.specs.declared.Argument as code_argument
use Rattle.format_arguments.specs.Arguments.{Argument}
use Rattle.format_arguments.specs.Indexing.{add}
use Rattle.format_arguments.specs.ArgumentViews.{argument_view}
use Rattle.format_arguments.proofs.index.Index.of.Goals as goal

next : (name : List ℕ) (new old so_far : Option Kinds) (x : Argument) → new ≡ add name old x → old ≡ so_far
    → new ≡ add name so_far x
next name new old so_far x e f = e ∙ ap (λ (kinds : Option Kinds). add name kinds x) f

pub asked-preserved : goal.asked-preserved
asked-preserved c = λ name.
    let step = λ (kinds : Option Kinds) (a : code_argument.Argument). add name kinds (argument_view a) in
    next name _ _ _ _ (c.in_ok-add.ensures name) (c.asked.invariant name)
    ∙ sym (fold_more step None c.args.asked.now c.asked.argument-index _ c.asked-test.true)

pub returns : goal.returns
returns c = λ name.
    let step = λ (kinds : Option Kinds) (a : code_argument.Argument). add name kinds (argument_view a) in
    c.asked.invariant name
    ∙ ap (fold step None) (take_all c.asked.argument-index c.args.asked.now c.asked-test.false)
    ∙ sym (fold-map (add name) argument_view None c.args.asked.now)
