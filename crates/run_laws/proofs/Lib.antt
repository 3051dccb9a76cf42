-- Where all updates are a client's, its answers are those of the client alone.
pub mod AloneAnswers
-- A client alone has one legal run.
pub mod OneRun
-- What an input, its session and its directory determine.
pub mod Determined
-- Small sessions: runs that are not legal, since an answer does not fit the updates.
pub mod RefusedRows
-- Small sessions: runs that are legal, and similar runs that are not.
pub mod RunRows
-- Common prefixes, `start-after` and truncated pages.
pub mod PageLaws
-- A legal run does not depend on the numbers of the clients.
pub mod Renamed
-- Requests that keep to some keys: their pages, listings and updates.
pub mod KeptKeys
-- A client on names that no other client changes.
pub mod Untouched
