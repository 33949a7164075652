pub mod JavaQuotes
pub mod JavaElements
pub mod JavaSteps
pub mod JavaKinds
pub mod JavaFormat
pub mod JavaReading
