pub mod Cutting
pub mod Taking
