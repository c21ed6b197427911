-- One list of calls: what it leaves, which calls are refused after it, that a running after it may be split, that its
-- windows started on time, and how many steps its calls answer. Assumes nothing.
pub mod Accepted
pub mod Calls
pub mod Leaves
pub mod OnTime
pub mod Split
pub mod StepBounds
pub mod Verdicts
pub use Accepted.{queried, own_accepted, own_refused}
pub use Calls.{refused_stays}
pub use Leaves.{leaves}
pub use OnTime.{every_start, on_time_lem}
pub use Split.{split}
