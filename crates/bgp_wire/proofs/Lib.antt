pub mod OneAttribute
pub mod There
pub mod Noting
pub mod Plainly
pub mod Hops
pub mod Reaching
pub mod OneValue
pub mod OneContent
