pub mod Table
pub mod Pieces
pub mod States
pub mod Showing
pub mod Strings
pub mod HeaderTexts
pub mod Refusals
