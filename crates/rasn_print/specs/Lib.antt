pub mod Calls
pub mod Catalogs
pub mod Queries
pub mod Reading
pub mod Reasons
pub mod Verdicts
pub mod Worked
pub mod WorkedQueries
