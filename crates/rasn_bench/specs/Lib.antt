pub mod Lines
pub mod Answers
pub mod LawfulLines
pub mod NormalAnswers
pub mod Arguments
