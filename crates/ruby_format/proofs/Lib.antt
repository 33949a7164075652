pub mod RubyPartLemmas
pub mod RubyDirectiveLemmas
pub mod RubyTextLemmas
