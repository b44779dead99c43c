pub mod PackedLaws
pub mod PutLaws
pub mod StoredLaws
pub mod AboveLaws
pub mod LongestLaws
pub mod TakenLaws
