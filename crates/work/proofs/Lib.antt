pub mod Fills
pub mod Pinned
