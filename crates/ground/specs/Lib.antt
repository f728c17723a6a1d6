pub mod Pick
pub mod Said
pub mod Bytes
pub mod Pins
