pub mod Languages
pub mod FormatFlags
