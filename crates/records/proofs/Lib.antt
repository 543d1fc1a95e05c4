pub mod Digits
pub mod Amounts
pub mod Reading
pub mod RecordLayout
pub mod Writing
pub mod Worked
