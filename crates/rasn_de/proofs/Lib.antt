pub mod Headers
pub mod Strings
pub mod Leaves
pub mod Constructed
pub mod OwnTypes
pub mod Any
