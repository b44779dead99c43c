pub mod BitLists
pub mod Highest
mod Comparing
pub mod Masks
pub mod Octets
pub mod Beginning
pub mod Containing
mod Shared
pub mod Turns
pub mod Wires
pub mod Filled
pub mod HexText
pub mod ZeroRuns
pub mod RunRows
pub mod Chunks
pub mod Lengths
pub mod Spelled
