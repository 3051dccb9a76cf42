pub mod Values
pub mod Runs
pub mod Lines
pub mod Sessions
pub mod Sent
pub mod Sampled
pub mod SampleSizes
pub mod Forms
pub mod VerdictLines
-- The text of an input of one client is determined, and so is the refusal of an input.
pub mod OneText
-- The verdict on a text is determined.
pub mod OneVerdict
-- What the promise rules out.
pub mod ServedLaws
