pub mod Refusals
pub mod Money
