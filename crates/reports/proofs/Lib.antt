pub mod Totals
pub mod Texts
