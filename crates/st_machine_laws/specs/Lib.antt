pub mod Holding
pub mod StaysReady
pub mod Moments
pub mod WholeRun
