pub mod Fits
pub mod Pinned
