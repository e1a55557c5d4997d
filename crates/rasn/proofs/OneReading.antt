pub mod Shapes
pub mod Leaves
pub mod Any
pub mod Joined
