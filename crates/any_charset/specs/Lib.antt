pub mod Declaring
pub mod LineRest
pub mod Recoding
pub mod Renaming
