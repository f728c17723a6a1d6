pub mod Numbers
pub mod Count
pub mod Known
pub mod Fours
