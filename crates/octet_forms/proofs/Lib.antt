pub mod Booleans
pub mod Options
pub mod Lists
pub mod Numbers
pub mod Sequences
pub mod Fields
pub mod Counts
