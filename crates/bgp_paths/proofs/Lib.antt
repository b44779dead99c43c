pub mod HasOneFront
pub mod Counting
pub mod Refusing
pub mod Words
pub mod Weights
pub mod Fronts
pub mod Gathering
pub mod Merging
