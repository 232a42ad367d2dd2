pub mod Disciplining
