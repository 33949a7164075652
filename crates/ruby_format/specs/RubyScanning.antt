-- Private: ways, parts, ends, directives and references of the code as values.
use Rattle.ruby_format.specs.declared.parts.Way as code_way
use Rattle.ruby_format.specs.declared.parts.Way.TheVariants as ways
use Rattle.ruby_format.specs.declared.parts.Part as code_part
use Rattle.ruby_format.specs.declared.parts.Part.TheVariants as parts
use Rattle.ruby_format.specs.declared.parts.Ending as code_ending
use Rattle.ruby_format.specs.declared.parts.Ending.TheVariants as endings
use Rattle.ruby_format.specs.declared.directives.Directive as code_directive
use Rattle.ruby_format.specs.declared.directives.Reference as code_reference
use Rattle.ruby_format.specs.RubyPieces.{Way, Next, Number, Name, Part, Flag, To, Width, Precision}
use Rattle.ruby_format.specs.RubyPieces.{Ending, Nothing, Asks, Braces}
use Rattle.ruby_format.specs.RubyDirectives.{Directive, Reference}

abbrev pub way_view : code_way.Way → Way
way_view ways.Next = Next
way_view (ways.Number number) = Number number
way_view (ways.Name name) = Name name.now

abbrev pub part_view : code_part.Part → Part
part_view parts.Flag = Flag
part_view (parts.To way) = To (way_view way)
part_view (parts.Width amount) = Width amount
part_view (parts.Precision amount) = Precision amount

abbrev pub ending_view : code_ending.Ending → Ending
ending_view endings.Nothing = Nothing
ending_view (endings.Asks kind) = Asks kind
ending_view (endings.Braces name) = Braces name.now

abbrev pub directive_view : code_directive.Directive → Directive
directive_view d = record { to = way_view d.to; width = d.width; precision = d.precision; kind = d.kind }

abbrev pub reference_view : code_reference.Reference → Reference
reference_view r = record { to = way_view r.to; kind = r.kind }
