pub mod Segments
pub mod Texts
pub mod Order
