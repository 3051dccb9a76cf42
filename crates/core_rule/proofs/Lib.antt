-- The table after an allowed event, as the code makes it.
pub mod Stepped
-- Who writes what, if no step was made.
pub mod StepOwners
-- The event at which a run is refused.
pub mod Refusals
