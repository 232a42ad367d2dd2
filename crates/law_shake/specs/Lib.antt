pub mod Renaming
pub mod Making
pub mod Kept
pub mod Items
pub mod Names
pub mod Told
pub mod RunsAlike
pub mod Laws
