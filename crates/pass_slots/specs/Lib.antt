-- What a pass keeps of its slots at run time.
pub mod Owned
