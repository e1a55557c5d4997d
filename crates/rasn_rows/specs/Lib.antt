pub mod Lamp
pub mod Replies
