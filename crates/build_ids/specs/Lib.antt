pub mod Events
pub mod Cursor
pub mod Table
pub mod Rows
pub mod Laws
