pub mod DigitRows
pub mod Writing
