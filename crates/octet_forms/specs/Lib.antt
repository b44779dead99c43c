pub mod Sequences
pub mod Fronts
pub mod Fields
pub mod Counted
