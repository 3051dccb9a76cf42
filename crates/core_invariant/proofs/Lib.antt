-- What holds of each item of a list, and of the seats, if only something else has changed.
pub mod Frames
-- One bundle, if what it reads stays the same at its entries.
pub mod BundleFrames
-- Two sides compared, and a link compared with another one.
pub mod Sides
-- What a seat has filled stays if a store is to a word other than those of its own slots.
pub mod Filled
-- What idle views hold, and what the rule says of two views with numbers.
pub mod Idle
-- What the rule says of announcements and of each two seats is kept if what it reads of a view is.
pub mod Pairs
-- Moves of one view that keep the rule, of its slots and of the rest.
pub mod OneView
-- The entries of live nodes are not free, stand in one bundle each, and what else the counts of slots say.
pub mod Owned
-- The histories of two views that are joined.
pub mod Joins
-- Items of lists that pass a test, a list of numbers without one of them, and the longest of several histories.
pub mod Passing
-- A free entry of a view is put into a bundle of a linked node: the rule on slots is kept.
pub mod SlotLinks
-- A bundle that gets an entry without a number in front: what is linked, read and held.
pub mod Fronts
-- What a view holds by its locks and its new node, the test for a lock, and what is known of a locked node.
pub mod Locked
-- A view that waits holds nothing of a batch; and what the needs of a leave, a look at a section and a set link say.
pub mod WaitNeeds
-- The nodes of a tree, what keeps it spelled, and the tree and the bundles read from the words: the ones of the rule.
pub mod TreeNow
-- What is read by computation: the newest entry that has a number, the entries from a head on, and the tree from a
-- child on.
pub mod TreeReads
-- The tree after an update, for puts and removals alike, and what the tests of a tree step say.
pub mod TreeSteps
-- The law on links, from what the words of two tables mean to the words themselves.
pub mod LinkLaw
-- What the needs of loads and of an update's events say.
pub mod Needed
-- Which parts of its view an event of one seat keeps, what a join leaves, and what an allowed event gives.
pub mod KeptViews
-- The fields of a view in groups: what the parts of the rule read and the kinds of events touch.
pub mod Groups
-- What each kind of event changes of a view: a group of its fields that a kind does not touch is as before.
pub mod Footprints
-- The words to which each kind of event stores: another word is as before.
pub mod WordPrints
-- A view that stands at another place, remembers other links, and has loaded more of the same locked nodes keeps the
-- rule.
pub mod ReadMoves
-- What a seat that stands at an entry knows, and where an allowed cut is: no seat reads below the number of its entry.
pub mod AtEntries
-- Numbers fall along a bundle: after an entry whose number was found comes one whose number is written, and lower.
pub mod Falling
-- The links of a tree with their children, and which of them an update keeps.
pub mod Children
-- The links that an update leaves to be set, and the tags that it leaves to be raised.
pub mod PlainSteps
-- What is said of plain links, if one view moves and still has the same to do, or if only other words change.
pub mod PlainFrames
-- The nodes of a search on plain links, if a view moves.
pub mod SearchNodes
-- What the updates of the views still have to do at plain links, by view, and which links none of them has to set.
pub mod Undone
