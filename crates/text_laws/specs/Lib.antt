-- The first wrong line of a text.
pub mod WrongLine
-- The same by the part of the text in which it stands.
pub mod WrongParts
-- What is proved of it.
pub mod TextLaws
