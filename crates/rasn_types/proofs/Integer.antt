pub mod Unique
pub mod Octets
pub mod Order
pub mod Shortest
pub mod TwosComplement
pub mod Texts
