-- The first put of a table of two passes by single steps, as a test makes it: what the pass's view is at its stages.
pub mod FirstPut
