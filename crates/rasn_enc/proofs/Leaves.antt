pub mod Primitive
pub mod BitString
pub mod NamedBits
pub mod ObjectIdentifier
pub mod CharacterString
pub mod Time
pub mod TimeOctets
pub mod Segments
