-- What the steps of a try keep.
pub mod Steps
pub mod Finals
-- A removal ends in two halves around its wait.
pub mod FarSteps
pub mod FilledWords
-- The bundles of the nodes that go out.
pub mod Outs
pub mod Fronts
pub mod Raised
pub mod LockedBundles
pub mod PruneWalks
pub mod Pruned
pub mod OnlyCuts
pub mod FreeSlots
-- The newest entries of bundles of locked nodes.
pub mod FoundHeads
-- What was found of bundles stays found, also in a cut of others.
pub mod KeptWalks
-- What is known of bundles that were cut.
pub mod ShortBundles
pub mod Done
-- A pass that is alone on its table stays so.
pub mod Alone
-- Counts that rise through a try.
pub mod Counted
-- Which links and tags a try learns.
pub mod Learns
-- What is known under a lock is found again.
pub mod HeldWords
-- The looks of a try at a locked node.
pub mod LooksUnder
-- What the rule says of what a search has found.
pub mod Found
-- The looks of a try at a successor.
pub mod NextLooks
-- The nodes that a try has locked on its way to a plan.
pub mod Holding
-- What the plan of a removal rests on.
pub mod Removals
