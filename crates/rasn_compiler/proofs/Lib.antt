pub mod TypeNames
pub mod Libraries
pub mod Texts
pub mod Called
pub mod NamedValues
