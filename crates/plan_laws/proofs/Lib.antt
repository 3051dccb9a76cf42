-- Items of lists.
pub mod Items
-- What a try has found under its locks, and by its search, stays in steps that keep the locked nodes or parts of them.
pub mod Kept
-- How each load under a lock, and a prepare, maps the locked nodes, and what it keeps.
pub mod HeldMaps
-- A try locks nodes that it has searched, and fills its slots.
pub mod Tries
-- The looks of a try.
pub mod Looks
-- The words that a plan fills are different ones.
pub mod FillWords
-- The entries that a plan puts in front, what is filled of each, and the raise of the plan.
pub mod PlanFronts
-- A try puts its entries in front.
pub mod Fronts
-- A pass gives its locks back, and leaves its section.
pub mod Releases
pub mod Prunes
-- The plain links are set.
pub mod PlainLinks
-- A removal ends in two halves around its wait.
pub mod PartedHeld
-- A removal with a far successor ends in two halves around its wait: the first half, and the wait.
pub mod Parting
-- After the wait the far successor is marked and unlinked.
pub mod FarUnlinks
-- What follows the raise.
pub mod Finals
-- What the answer of an update needs.
pub mod Answered
-- What the steps leave as it was.
pub mod Frames
