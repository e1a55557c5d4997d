pub mod Seconds
pub mod Steps
pub mod Texts
