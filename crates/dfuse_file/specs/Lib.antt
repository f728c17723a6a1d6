pub mod Reading
pub mod Placed
pub mod Walking
