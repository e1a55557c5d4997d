pub mod Contained
pub mod Range
