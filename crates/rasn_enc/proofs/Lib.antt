pub mod Buffer
pub mod Headers
pub mod Leaves
pub mod Constructed
pub mod OwnTypes
pub mod Sorting
pub mod TagOrder
