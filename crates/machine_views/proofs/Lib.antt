-- A list whose items are changed one after another.
pub mod InPlace
-- A search stands at a node, which is the node of the link at which it stands.
pub mod Turned
