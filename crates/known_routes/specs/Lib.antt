pub mod Known
pub mod InternTable
