pub mod Tests
pub mod Lists
pub mod Reports
pub mod Numbers
pub mod Prefix
pub mod Pinned
