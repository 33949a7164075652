pub mod OneFault
pub mod WordLemmas
