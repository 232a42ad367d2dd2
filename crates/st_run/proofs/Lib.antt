pub mod CallLemmas
pub mod OneOutcome
pub mod RunLemmas
pub mod SomeOutcome
pub mod StatsLemmas
pub mod TraceLemmas
pub mod AuditLemmas
pub mod StatusLemmas
