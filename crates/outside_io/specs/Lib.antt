-- Sources and sinks of bytes: what is given and taken, and how failures are counted.
pub mod Streams
pub mod Failing
pub mod Memory
pub mod ReadErrors
pub mod StandardStreams
