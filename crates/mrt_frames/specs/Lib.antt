pub mod Buffered
pub mod Record
pub mod Taken
