pub mod WordLetters
