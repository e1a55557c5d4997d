pub mod Ascending
pub mod OneOrder
pub mod Same
