pub mod Issuing
pub mod Pinned
