-- Whether a text is that of a token with which a listing goes on.
pub mod Resolving
-- Each request has an answer after all updates of a history.
pub mod Following
-- One more answer of one client.
pub mod Growing
-- The rest of the requests of all clients.
pub mod Ending
-- The text of a run begins with the lines of the first client's replies.
pub mod Texts
-- What a pass knows after the first requests of the only client.
pub mod FirstPart
