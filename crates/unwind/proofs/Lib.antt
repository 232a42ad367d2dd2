pub mod Once
mod Drops
