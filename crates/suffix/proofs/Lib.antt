pub mod Tested
pub mod Appendix
pub mod AppendixRead
pub mod Damage
pub mod Pinned
