use Rattle.std.proofs.Common.{◌≡◌, None, drop, map, option_map}
use Rattle.ruby_format.specs.RubyFormat.{are_one_way}
use Rattle.ruby_format.specs.RubyScanning.{reference_view, way_view}
use Rattle.ruby_format.proofs.arguments.are_one_way.Given as goal

abbrev pub invariant-references : goal.invariant-references
invariant-references l = are_one_way (option_map way_view l.asked) (map reference_view (drop l.reference-index
    l.references)) ≡ are_one_way None (map reference_view l.references)
