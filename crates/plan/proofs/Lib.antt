pub mod Agree
pub mod Pages
pub mod Blocks
pub mod Wire
pub mod Unfilled
