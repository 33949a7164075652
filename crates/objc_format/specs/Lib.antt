pub mod ObjcKinds
pub mod ObjcConversions
pub mod ObjcDirectives
pub mod ObjcFormat
