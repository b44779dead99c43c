pub mod Numbers
pub mod Segments
pub mod Path
pub mod Text
pub mod Readers
pub mod Merge
pub mod Codes
