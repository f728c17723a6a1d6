pub mod Names
pub mod Reply
