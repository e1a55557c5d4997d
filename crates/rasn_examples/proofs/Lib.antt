pub mod LawfulTypes
pub mod BothErrors
pub mod EventComponents
pub mod WorkedNormals
