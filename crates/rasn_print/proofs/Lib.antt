pub mod Catalogs
pub mod PartOffsets
pub mod Queries
pub mod Verdicts
pub mod Worked
pub mod WorkedQueries
