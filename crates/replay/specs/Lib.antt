-- What a plan asks for, and what it means that its acts were played.
pub mod Setup
pub mod Replies
pub mod Acts
pub mod Played
pub mod Asked
pub use Rattle.runlaw.specs.History
pub use Rattle.runlaw.specs.Log
pub use Rattle.observer.specs.Totals
pub use Rattle.station.specs.Station
