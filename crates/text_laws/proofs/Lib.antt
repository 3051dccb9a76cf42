-- Numbers in a text.
pub mod Runs
-- Where a quoted text ends.
pub mod Quotes
-- What a line says of its reply or update.
pub mod Spelled
-- A reply line is that of one reply.
pub mod OneReply
-- A journal line is that of one update.
pub mod OneUpdate
-- Right lines go on in one way.
pub mod GoesOn
-- Where the replies of each client begin, and lists of lists.
pub mod ReplyPlaces
pub mod Collected
-- One first wrong line, and in which part it stands.
pub mod OneWrong
pub mod WrongParts
-- No line feed inside a line.
pub mod Feeds
-- The lines of the text of a run.
pub mod Lined
-- From a legal run to right lines, and back.
pub mod FromLegal
pub mod ToLegal
