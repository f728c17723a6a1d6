pub mod Paid
pub mod Pinned
