-- The worked rows.
pub mod Rows
-- The rank of a name, and the text of a token.
pub mod Ranks
-- The pairs of some keys, in maps that change.
pub mod Parts
-- The updates of one client, up to the places of its replies.
pub mod Places
-- One more answer: its request has made one update of the client, or none.
pub mod Steps
-- What a right reply says of the client's own pairs.
pub mod Follows
-- A client on names of its own has in a legal run what it has alone.
pub mod Alone
-- Updates on other names commute.
pub mod OwnNames
-- Sums over clients.
pub mod Sums
-- The summary of a legal run is the sums over the clients.
pub mod Summaries
-- The length of a map, and what is in it, after a put and after a removal.
pub mod MapCounts
-- The names of the generated session.
pub mod SampleNames
-- The page of a client's listing in the generated session.
pub mod SamplePages
-- What a client of the generated session has alone is the same by its names and by the numbers in them.
pub mod SampleDone
-- The summary of the generated session is a function of the number of requests.
pub mod SampleLaw
