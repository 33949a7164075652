use Rattle.std.proofs.Common.{◌≡◌, ◌++◌, None, map, take}
use Rattle.std.specs.List.{flat_map}
use Rattle.format_arguments.specs.ArgumentViews.{argument_view}
use Rattle.ruby_format.specs.RubyFormat.{argument, list_of, other_asked}
use Rattle.ruby_format.specs.RubyScanning.{way_view}
use Rattle.ruby_format.proofs.arguments.arguments.Given as goal

abbrev pub invariant-references : goal.invariant-references
invariant-references l = map argument_view l.asked.items ≡ map (λ entry. argument None entry.1) l.kinds.entries
    ++ flat_map (λ r. list_of (other_asked (way_view r.to) r.kind)) (take l.reference-index l.references)
