pub mod BufferedLaws
pub mod Buffers
pub mod RecordLaws
pub mod RestLaws
