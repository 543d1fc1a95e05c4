pub mod Numerals
pub mod Amounts
pub mod Records
pub mod Written
pub mod Examples
