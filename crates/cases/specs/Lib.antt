pub mod Words
pub mod Output
pub mod Lines
