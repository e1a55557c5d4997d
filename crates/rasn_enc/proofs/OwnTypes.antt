pub mod Tagging
pub mod Choice
pub mod Sequence
pub mod Set
pub mod SortedSet
