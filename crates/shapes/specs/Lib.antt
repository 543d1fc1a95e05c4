pub mod Shapes
pub mod Places
pub mod Balance
pub mod Packed
pub mod Nodes
pub mod Trees
pub mod Building
pub mod Drafts
