-- The grammar of an input, the session that it gives or its refusal, and the generated session.
pub mod Counting
pub mod Input
pub mod InputParts
pub mod Session
pub mod Interned
pub mod NameHints
pub mod Said
pub mod Reading
pub mod SessionLaws
pub mod Refusal
pub mod CheckInput
pub mod CheckAnswers
pub mod Sample
pub mod SampleSession
pub mod Generated
