pub mod SameLaws
mod ElementExamples
pub mod Annotated
