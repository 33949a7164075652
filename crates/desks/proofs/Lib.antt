pub mod Answers
pub mod Desks
pub mod Jobs
pub mod OneEnd
pub mod OneHistory
pub mod Runs
pub mod Weaving
pub mod Learning
