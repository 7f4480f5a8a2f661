pub mod Codes
pub mod Levels
pub mod Maps
pub mod Names
pub mod Refusals
pub mod Spans
