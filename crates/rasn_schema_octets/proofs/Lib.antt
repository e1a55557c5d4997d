pub mod Nodes
pub mod Begins
pub mod Appended
pub mod Listed
pub mod Said
pub mod Whole
pub mod Complete
pub mod Worked
