pub mod Cuts
pub mod Strings
pub mod Published
pub mod Pinned
pub mod Detaching
