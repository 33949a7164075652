-- Where strings lie in an MO file: the definitions of the catalogue's own file, for either byte order (GNU gettext
-- manual, "MO Files").
pub use Rattle.catalogue.specs.Tables.{word_at, string_at, strings}
