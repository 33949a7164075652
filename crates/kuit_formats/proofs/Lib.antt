pub mod CharacterLemmas
pub mod TagLemmas
pub mod ContentLemmas
