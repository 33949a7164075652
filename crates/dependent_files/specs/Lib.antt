pub mod MessagesHere
pub mod MessagesFile
pub mod TextFiles
pub mod FileFaults
pub mod DigitsFlag
pub mod FlagScanning
