pub mod Pools
pub mod Summaries
pub mod Reports
