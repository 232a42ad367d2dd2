pub mod Disciplines
