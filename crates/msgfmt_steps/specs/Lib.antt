pub mod RunDevices
pub mod Causes
pub mod StepEnds
