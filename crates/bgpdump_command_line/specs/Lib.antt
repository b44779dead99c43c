pub mod CommandLine
pub mod Arguments
