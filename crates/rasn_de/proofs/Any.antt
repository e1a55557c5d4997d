pub mod Skipping
pub mod Reads
pub mod Nothing
pub mod Unknown
