-- What a pass reads along the bundles of its tree.
pub mod Reads
pub mod Links
pub mod Children
