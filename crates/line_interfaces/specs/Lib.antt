pub mod Latests
pub mod Scratching
