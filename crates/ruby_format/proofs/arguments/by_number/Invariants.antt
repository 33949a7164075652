use Rattle.std.proofs.Common.{◌≡◌, ℕ, List, [], take}
use Rattle.std.specs.List.{fold}
use Rattle.format_arguments.specs.declared.Kind.{Kind}
use Rattle.ruby_format.specs.declared.directives.Reference as code_reference
use Rattle.ruby_format.specs.RubyFormat.{kinds_with}
use Rattle.ruby_format.specs.RubyScanning.{reference_view}
use Rattle.ruby_format.proofs.arguments.by_number.Given as goal

abbrev pub invariant-references : goal.invariant-references
invariant-references l = l.kinds.entries ≡ fold (λ (kinds : List (ℕ × Kind)) (r : code_reference.Reference).
    kinds_with kinds (reference_view r)) [] (take l.reference-index l.references)
