pub mod ReadySends
pub mod ReadyLoops
