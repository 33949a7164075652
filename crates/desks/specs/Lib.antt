pub mod Jobs
pub mod Answers
pub mod Desks
pub mod Working
pub mod Laws
pub mod ServedHistory
pub mod AskFaults
