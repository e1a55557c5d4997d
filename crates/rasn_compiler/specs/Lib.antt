pub mod Sources
pub mod Libraries
pub mod Identifiers
