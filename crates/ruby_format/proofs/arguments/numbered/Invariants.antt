use Rattle.std.proofs.Common.{◌≡◌, ◌++◌, None, map}
use Rattle.format_arguments.specs.ArgumentViews.{argument_view}
use Rattle.ruby_format.specs.RubyFormat.{argument}
use Rattle.ruby_format.proofs.arguments.numbered.Given as goal

abbrev pub invariant-kinds : goal.invariant-kinds
invariant-kinds l = map argument_view l.asked.items ++ map (argument None) l.kind-iterator
    ≡ map (λ entry. argument None entry.1) l.kinds.entries
