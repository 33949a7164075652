pub mod FormatLanguages
pub mod AskedViews
pub mod FlaggedEntries
pub mod FormatViews
pub mod FormatFaults
