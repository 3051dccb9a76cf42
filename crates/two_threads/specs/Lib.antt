-- What a thread was answered in a turn, by the history of all threads.
pub mod Turns
-- What a run of the two threads found.
pub mod Runs
