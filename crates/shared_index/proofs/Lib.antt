-- What the rule of the table says of a pass.
pub mod OwnFacts
-- Which index a key or a note is of, and the keys of an index.
pub mod KeyHomes
-- A snapshot that was opened, to its caller.
pub mod Begun
-- An update that was made, and a key that was not found, to its caller.
pub mod Made
-- A node that was adopted, to the caller.
pub mod Adopted
-- A pass that has gathered entries, to its caller.
pub mod Gathers
