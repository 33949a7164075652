use Rattle.std.proofs.Common.{ℕ, length}
use Rattle.ruby_format.specs.RubyDirectives.{PartsAt, blank}
use Rattle.ruby_format.specs.RubyScanning.{directive_view}
use Rattle.ruby_format.proofs.directives.read_parts.Given as goal

abbrev pub invariant-parts : goal.invariant-parts
invariant-parts l = (n : ℕ) × PartsAt n blank (directive_view l.directive) l.text l.rest

abbrev pub decreases-parts : goal.decreases-parts
decreases-parts l = length l.rest
