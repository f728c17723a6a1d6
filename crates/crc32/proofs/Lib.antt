pub mod Linear
pub mod Rule
pub mod Bytewise
pub mod Tables
pub mod Slices
pub mod Damage
pub mod Pinned
