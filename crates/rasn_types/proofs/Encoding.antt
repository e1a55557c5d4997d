pub mod Determined
pub mod SameOctets
pub mod SameAsItself
pub mod Complete
pub mod First
pub mod Listed
