-- The forms of the command line, and what `clap` reads of the arguments.
pub mod Words
pub mod Program
