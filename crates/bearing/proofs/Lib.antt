pub mod Drawing
pub mod Reopening
