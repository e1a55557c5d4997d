pub mod Dates
pub mod Stamps
pub mod Spellings
pub mod Fractions
pub mod ShortestTexts
pub mod Powers
