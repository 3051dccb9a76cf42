-- The laws on runs, inputs and directories.
pub mod Alone
pub mod OneRun
pub mod Determined
pub mod RunRows
pub mod PageLaws
pub mod Renamed
pub mod Untouched
