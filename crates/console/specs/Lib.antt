pub mod Came
pub mod Counted
pub mod Problem
pub mod Whole
