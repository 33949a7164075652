pub mod KuitBytes
pub mod KuitCharacters
pub mod KuitReferences
pub mod KuitTokens
pub mod KuitTags
pub mod KuitMarkup
pub mod KuitFormat
pub mod KuitReading
