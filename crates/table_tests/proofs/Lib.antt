-- The first put of a table by single steps.
pub mod FirstPut
