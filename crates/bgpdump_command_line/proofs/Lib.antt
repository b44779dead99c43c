pub mod CommandLineLaws
pub mod ArgumentLaws
