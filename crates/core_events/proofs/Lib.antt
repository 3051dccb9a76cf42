-- What tests over truth values, numbers and words say.
pub mod Tests
-- The views after an event, by the kind of the event.
pub mod Changes
-- What an allowed event says of its seat.
pub mod Allowed
-- The nodes that a search knows, by its parts.
pub mod SearchedNodes
