mod Escaped
mod NameTexts
mod PemBlocks
mod PemContents
mod PemLines
pub mod PemPlaces
mod ShownTexts
mod ValueTexts
mod Worked
