-- The totals of a run.
pub mod Steps
pub mod Totals
pub use Rattle.runlaw.specs.Log
