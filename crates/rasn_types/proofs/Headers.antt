pub mod Frames
pub mod Digits
