pub mod PeerLaws
pub mod SharedLaws
