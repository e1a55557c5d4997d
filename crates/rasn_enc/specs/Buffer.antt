pub mod Cursors
pub mod Cuts
pub mod Contents
pub mod OpenValues
pub mod Lists
pub mod DeferredHeaders
pub mod HeaderRest
pub mod Moves
