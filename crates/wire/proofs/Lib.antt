pub mod Lent
pub mod Pinned
