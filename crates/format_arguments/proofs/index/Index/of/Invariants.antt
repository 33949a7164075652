use Rattle.std.proofs.Common.{◌≡◌, ℕ, List, Option, None, take}
use Rattle.std.specs.List.{fold}
use Rattle.format_arguments.specs.declared.kinds.Kinds.{Kinds}
use Rattle.format_arguments.specs.declared.Argument as code_argument
use Rattle.format_arguments.specs.Indexing.{add, kinds_in}
use Rattle.format_arguments.specs.ArgumentViews.{argument_view}
use Rattle.format_arguments.proofs.index.Index.of.Given as goal

abbrev pub invariant-asked : goal.invariant-asked
invariant-asked l = (name : List ℕ) → kinds_in l.index name
    ≡ fold (λ (kinds : Option Kinds) (a : code_argument.Argument). add name kinds (argument_view a)) None
    (take l.argument-index l.asked)
