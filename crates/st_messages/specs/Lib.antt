pub mod Replies
pub mod Rows
pub mod Spellings
pub mod Levels
pub mod Selectors
pub mod Pieces
pub mod Printed
pub mod Sent
