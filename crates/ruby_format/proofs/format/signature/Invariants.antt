use Rattle.std.proofs.Common.{length, map}
use Rattle.format_arguments.proofs.TextLemmas.{HasRead}
use Rattle.ruby_format.specs.RubyPieces.{percent}
use Rattle.ruby_format.specs.RubyDirectives.{DirectiveAt, references}
use Rattle.ruby_format.specs.RubyScanning.{reference_view}
use Rattle.ruby_format.proofs.RubyDirectiveLemmas.{are_directives}
use Rattle.ruby_format.proofs.format.signature.Given as goal

abbrev pub invariant-directives : goal.invariant-directives
invariant-directives l = HasRead percent DirectiveAt are_directives references l.text l.rest
    (map reference_view l.references.items)

abbrev pub decreases-directives : goal.decreases-directives
decreases-directives l = length l.rest
