pub mod SelectorNames
pub mod PlainRows
pub mod PassingSends
pub mod PassingVisits
pub mod PassingMachine
pub mod PassingRun
pub mod FittingTrees
pub mod FittingMade
