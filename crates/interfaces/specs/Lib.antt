pub mod Folds
pub mod Amounts
pub mod AmountsLemmas
