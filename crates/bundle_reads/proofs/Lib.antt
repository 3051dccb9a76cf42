-- The tree that a pass reads at its section number.
pub mod ReadTrees
-- What loads leave of the view of a pass that holds no lock.
pub mod ReadMoves
-- The entries of a link, from the head on.
pub mod Bundles
