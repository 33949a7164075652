pub mod ObjcKindLemmas
pub mod ObjcDirectiveLemmas
pub mod ObjcTextLemmas
