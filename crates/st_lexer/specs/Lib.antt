pub use Rattle.st_base.specs.TokenBytes
pub use Rattle.st_base.specs.Lexed
pub mod Seen
