pub mod SharedRoute
pub mod Event
pub mod Codes
