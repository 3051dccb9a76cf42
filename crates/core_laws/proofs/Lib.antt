-- Who changes a plain link, or its tag, and since when.
pub mod Changers
-- The law on trees.
pub mod TreeLaw
-- The null links and the gaps of a tree, as far as the list of its nodes tells them.
pub mod TreeGaps
-- The law on remembered links.
pub mod Remembered
-- What holds of each table that meets the rule.
pub mod Laws
-- Who writes what: each kind of event stores to a word of the seat's own, or to the stamp.
pub mod Owners
-- What a view shows, as the tests of needs find it.
pub mod ViewTests
-- What a view at work has: it was not joined away, its words are in the table, and nothing of it is pending where it
-- may leave.
pub mod AtWork
-- A seat whose view meets the need of an event may make it, in every table that meets the rule.
pub mod ViewNeeds
-- A seat whose view shows that it may announce, take its announcement back, or look at another pass's may do so.
pub mod AnnounceNeeds
-- A seat whose view shows that it may cut, since it has walked along the bundle under its lock, may do so.
pub mod CutNeeds
-- A seat whose view shows that it may load or set a plain link, or its tag, may do so.
pub mod PlainNeeds
-- A seat whose view shows that it may leave at the wait of a removal, or look at another pass there, may do so.
pub mod Waits
-- A successor is unlinked after each other pass was passed since its copy was linked.
pub mod Unlinks
-- An allowed cut takes no entry that a section number selects, now or later.
pub mod Unread
-- A lock word that is found held by a seat that has not locked the node names another pass.
pub mod HeldLocks
-- The kinds of events that change no count of a view.
pub mod Tallies
-- Where a count rises, and what the tests of a view for it say.
pub mod CountTests
-- The view of a seat in a list of views in which one was set.
pub mod SetViews
-- Where the counts of a view rise at a load.
pub mod CountLoads
-- Where the counts of a view rise.
pub mod Counts
-- What a seat knows from its view where a count is to rise.
pub mod CountFacts
-- A seat that loads an entry's stamp stands at the entry, and one with a section number watches its bundle.
pub mod NumberLoads
-- The slots of all views and of the tree are those of the layout.
pub mod SlotSums
-- Numbers of passes, places of updates and chains, for the question who did something.
pub mod AloneFacts
-- What is met in a table, and this seat did not do, another pass did.
pub mod Elsewhere
-- What is met where a count rises is what another pass did.
pub mod Alone
-- A tree is determined by the list of its nodes.
pub mod OneTree
-- What the words are of the tree that a seat reads.
pub mod Found
-- The stamp to which an allowed raise adds one is small.
pub mod RaiseStamps
-- Numbers fall along a bundle.
pub mod Falls
-- Where plain links lead, and that a tag that is to be raised has room for it.
pub mod PlainTrees
-- A seat inside a section has a pass number, and where there is one pass alone no other view has one.
pub mod OnePass
-- What a search on plain links may rely on.
pub mod Searching
-- Where a search stands, its key lies beyond those of its turns; and what stays on a table of one pass.
pub mod SearchTurns
-- A search does not come back to a node at which it has turned.
pub mod NoReturn
-- On a table of one pass a plain link, and its tag, hold what a seat remembers of them, or what it knows under its own
-- lock.
pub mod KnownLinks
