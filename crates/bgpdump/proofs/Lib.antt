pub mod JoiningLaws
pub mod ScriptLaws
