pub mod Pem
pub mod Escapes
pub mod ShortNames
pub mod Shown
pub mod Joined
pub mod Names
pub mod WorkedNames
