-- The arguments and readings of the code as values.
use Rattle.std.specs.Prelude.{map}
use Rattle.format_arguments.specs.ArgumentViews.{argument_view}
use Rattle.format_checks.specs.declared.languages.Asked as code_asked
use Rattle.format_checks.specs.declared.languages.Asked.TheVariants as variants
use Rattle.format_checks.specs.declared.languages.Reading as code_reading
use Rattle.format_checks.specs.declared.languages.Reading.TheVariants as readings
use Rattle.format_checks.specs.FormatLanguages.{Asked, Named, Numbered, Placed, Reading, Format, NoFormat, Unread}

abbrev pub asked_view : code_asked.Asked → Asked
asked_view (variants.Named asked) = Named (map argument_view asked.items)
asked_view (variants.Numbered asked) = Numbered asked.items
asked_view (variants.Placed asked) = Placed asked.items

abbrev pub reading_view : code_reading.Reading → Reading
reading_view (readings.Format asked) = Format (asked_view asked)
reading_view readings.NoFormat = NoFormat
reading_view readings.Unread = Unread
