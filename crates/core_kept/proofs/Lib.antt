-- Each view knows where its own updates stand, after every event.
pub mod OwnPlaces
-- The slots of a view that wait, after the kinds of events that move none of them.
pub mod WaitingLoads
-- Each view's slots wait as they should, after every event.
pub mod WaitingSlots
-- What events store to words of free slots: none but a fill stores to one.
pub mod FreeWords
-- The slots that a view never used hold 0, after every event.
pub mod UnusedSlots
-- The section words and the announcements of passes: an enter, a leave and an announcement alone store to one, and to
-- their own.
pub mod SectionWords
-- No event makes what a seat has seen shorter.
pub mod SeenLaw
-- What an event does to the section words and the announcements of passes: an enter makes the own section word odd, a
-- leave even.
pub mod SectionLaw
-- A store to the own section word keeps the rule.
pub mod Stores
-- A store to the own announcement keeps the rule: the seat has no section number then, so that nobody has read by it.
pub mod Announces
-- A store to a word of a free slot keeps the rule: no part of it reads such a word.
pub mod Fills
-- A fill keeps the rule: the word of a free slot is stored, and the view knows what it holds.
pub mod FillViews
-- A seat that is split, and a seat that is joined into another one: the rule is kept.
pub mod TwoViews
-- Each kind of event keeps the rule where its needs are met.
pub mod EachKind
-- A leave keeps the rule: with no lock held, and at the wait of a removal with the locks that it keeps.
pub mod Leaves
-- What is known of a view that holds locks outside of a section stays, where it keeps them.
pub mod WaitingLocks
-- A seat that is made: the rule is kept.
pub mod MadeViews
-- The seats of the opening, made one after another.
pub mod MadeSeats
-- The table with the first view alone, which has all slots, calls and numbers, meets the rule.
pub mod AtOpening
-- The first view of a table put after the others: the rule stays, since it names no seat by its place.
pub mod LastView
-- The table of the opening meets the rule: the seats of the passes are made one after another from the first view,
-- which then stands after them.
pub mod Opened
-- The laws on how seats are made, and on what a view knows that has every number.
pub mod SeatLaws
-- An event of a seat, or of its free slots, that is allowed keeps the rule.
pub mod StepSeats
-- A load of the stamp keeps the rule: a seat that has announced reads from then on, and any other one knows the history
-- alone.
pub mod StampLoads
-- Loads of heads and of the stamps of entries keep the rule.
pub mod HeadLoads
-- Loads of the words of an entry at which the seat stands keep the rule.
pub mod LoadEntries
-- A load that is allowed keeps the rule.
pub mod StepLoads
-- A move of one view that holds more, where nothing of it is free, and nothing of it waits in the batch of one
-- who has let the view pass.
pub mod Holding
-- Try lock keeps the rule: a free lock word names the pass, and a held one stays.
pub mod TryLocks
-- Unlock keeps the rule: the lock word is 0, and the view has forgotten the node.
pub mod Unlocks
-- Loads and stores of marks keep the rule.
pub mod Marks
-- Loads of plain links and tags of a locked node, stores to them, and an update that has other links still to set.
pub mod PlainWork
pub mod LinkStores
pub mod TagStores
-- What is said of plain links after the kinds of events that set no plain link and raise no stamp.
pub mod PlainKept
-- What is said of plain links after a store to one, and after a store to a tag.
pub mod PlainSets
-- Each kind that loads or stores a plain link or its tag keeps the rule.
pub mod StepPlain
-- What the needs of events that lock, unlock or mark say, and so what each of these events keeps.
pub mod LockSteps
-- An event of a lock, of a mark, or of a key or a value that is allowed keeps the rule.
pub mod StepLocks
-- Prepare: what is linked and held once a free entry is put in front of a bundle.
pub mod Prepare
-- Prepare: the bundles, and what each number selects, once a free entry is the head of one of them.
pub mod PrepareBundles
-- Prepare: what a seat reads, and where it stands, once a free entry is put in front of a bundle.
pub mod PreparePlaces
-- Prepare keeps the rule: a free entry, which has the old head after it, becomes the head of a bundle.
pub mod PrepareSeats
-- Finalise keeps the rule: the number of the raise is written into a pending entry.
pub mod Finalise
-- What the tree step of a raise makes true, apart from how its needs are computed.
pub mod TreeMoved
-- What the tests of a new node say, and the children, the selections and the bundles after a raise.
pub mod TreeAfter
-- The needs of a tree step, as they are computed, and what they make true.
pub mod TreeNeeds
-- How often slots stand in a tree, in the bundles of its nodes, and in a list without others.
pub mod RaiseCounts
-- A move of one view that brings some of its free slots in: the rule on one kind of slots, and what the others know of
-- a batch.
pub mod RaiseMoves
-- The node that a raise brings in, and the entries of its bundles: they were free, so nothing of the rule spoke of
-- them.
pub mod RaiseNew
-- A raise keeps the rule on slots.
pub mod RaiseSlots
-- Raise, its part on the history: the update is the last of it, and the view that has made it knows it whole.
pub mod RaiseHistory
-- Raise, its part on numbers: the pending entries and those of the new node have the number of the raise, and what
-- a number up to the stamp selects stays.
pub mod RaiseNumbers
-- Raise: the bundles. Those of live nodes keep their entries, and each bundle of the new node has its head alone.
pub mod RaiseBundles
-- Raise: the trees. A tree that a seat reads at an older number stays the one at that number, its null links are as
-- wide in the new tree or wider, and the new tree is not marked.
pub mod RaiseTrees
-- Raise: the rule on each seat, the one that raises and each other one.
pub mod RaiseSeats
-- Raise: the links of the new tree, and the greatest numbers of their bundles.
pub mod RaiseLinks
-- Raise: what is said of plain links.
pub mod RaisePlain
-- Raise keeps the rule: the stamp rises by one, the pending entries and those of the new node have that number, and
-- the tree is the one after the update.
pub mod Raise
-- An event of an update that is allowed keeps the rule.
pub mod StepUpdates
-- A raise owes the tag of each link that leads to no node any more.
pub mod RaiseOwes
-- A look at an announcement keeps the rule: where the pass has a section number, its announcement is at most that.
pub mod LooksAtAnn
-- Lists of entries, cut off after one of them.
pub mod CutLists
-- The bundles after a cut: what each number from the entry's on selects and reads, and which entries are linked.
pub mod CutBundles
-- A cut keeps the rule on slots: what is cut off is linked no more, and is retired in the view that cuts.
pub mod CutSlots
-- Where seats stand after a cut: one that reads, or works on the node, stands at no entry that is cut off.
pub mod CutPlaces
-- A cut keeps the rule: the bundle ends with the entry, and no seat reads, holds or knows of what stood after it.
pub mod CutSeats
-- A look at an announcement, or a cut, that is allowed keeps the rule.
pub mod StepCuts
-- An event that is allowed keeps the rule, and what each number up to the stamp selects.
pub mod StepLaw
-- A view that has turned elsewhere in its search on plain links keeps the rule.
pub mod Turns
-- What searches on plain links reach, where one view moves.
pub mod ReachMoves
-- The nodes of the plain tree are in no free list and in no batch.
pub mod PlainNodes
-- A view searches at no other nodes than before, after each kind of event that moves it so.
pub mod ReachSteps
-- What searches on plain links reach, where the lists of slots of one view change.
pub mod ReachLists
-- The links that are still to be set, by the view that has them.
pub mod LinkItems
-- A set link that is allowed: what the law on stores of plain links asks is so.
pub mod MaySet
-- The plain tree after a set link, and what each view has still to do then.
pub mod SetTree
-- What a search claims at one node, after a set link.
pub mod SetClaims
-- What searches claim, and what they reach, after a set link.
pub mod SetSearch
-- What a view's search claims, where the view moves and its search stays where it is, or ends.
pub mod SearchSteps
-- The plain tree, and what searches claim, where one view moves and no plain link of a linked node does.
pub mod SearchMoves
-- A search on plain links goes on by one link: what it claims then, and what it reaches.
pub mod WalkSteps
-- A raise: what the update has to do is added to what others have to do, and the nodes that it has locked were settled.
pub mod RaiseTree
-- A raised put of an absent key: its search on plain links has found the gap of the key in the plain tree.
pub mod RaiseGap
-- A raised put keeps the match of the plain tree and the tree at the stamp.
pub mod RaisePuts
-- A raised removal keeps it, in each of its cases.
pub mod RaiseRemoves
-- The kinds of events that leave a view's search where it is, or end it.
pub mod QuietKinds
-- The plain tree, what searches claim and what they reach, after the kinds of events that move no plain link of a
-- linked node.
pub mod SearchKept
-- The same after the kinds of stores to other words than keys and plain links.
pub mod SearchStores
-- The same after a set link, and where a view comes to stand nowhere.
pub mod SearchNowhere
-- A raise: what is known of the links that its update has then still to set.
pub mod RaiseItems
-- The plain tree after a raised put.
pub mod RaisePutTree
-- The same after a try of a lock.
pub mod SearchLocks
-- The same after a leave: the view reaches nothing then, and forgets the node that its update brought in.
pub mod SearchLeaves
-- A seat that rests: it has nothing to do at plain links, searches for nothing, and reaches nothing.
pub mod RestingSeats
-- The plain tree, what searches claim and what they reach, over another list of views: one with more views, or in
-- another order.
pub mod OtherOrder
-- A seat that is made, or split off: the plain tree stays, and with it what searches claim and what they reach.
pub mod MadeSearches
-- The plain tree, what searches claim and what they reach, after a seat is split off.
pub mod SearchSeats
-- The plain tree after a raised removal: of a node with one child at most, and with two.
pub mod RaiseLifts
pub mod RaiseRemoveTree
-- The plain tree, what searches claim and what they reach, after a raise.
pub mod RaiseSearches
-- The end of an update: what it took out is not in the plain tree.
pub mod EndedUpdates
-- The plain tree, what searches claim and what they reach, after an unlock.
pub mod SearchUnlocks
-- A store to a word of a free node: it is not in the plain tree, and no search reaches it.
pub mod FreeStores
-- The plain tree, what searches claim and what they reach, after a fill.
pub mod SearchFills
-- No event but a raise stores to the stamp.
pub mod StampWords
-- The plain tree, what searches claim and what they reach, after every event, over the tree that is at the stamp then.
pub mod StepSearches
-- The plain tree, what searches claim and what they reach, where the retired slots become a batch, or a batch becomes
-- free.
pub mod SearchLists
-- A look at a section word lets nobody pass that is inside the section in which it was found.
pub mod LooksLetting
-- The plain tree, what searches claim and what they reach, after an enter, and after a look at a section word.
pub mod SearchLooks
-- At the wait of a removal the only link that is still to be set is that to the successor.
pub mod WaitItems
-- The plain tree, what searches claim and what they reach, after a look at a section word at the wait of a removal.
pub mod SearchWaits
-- The plain tree, what searches claim and what they reach, after a seat is joined into another one.
pub mod SearchJoins
-- What a seat knows of the plain links and the tags of the nodes that it has locked.
pub mod KnownHeld
-- What is said of turns, of nodes that leave the plain tree, and of a table of one pass, where one view moves and the
-- plain tree stays.
pub mod TurnFrames
-- The same after the kinds of events that leave a view's turns and the plain tree as they are.
pub mod TurnKinds
-- The same after stores to other words than keys, values, plain links and tags, and after a try of a lock.
pub mod TurnStores
-- The same where a view comes to stand nowhere, or to have read nothing, after a look at a section, and where seats are
-- made or joined.
pub mod TurnSeats
-- The same after a load of a plain link: a search that stands there turns, and goes on.
pub mod TurnWalks
-- On a table of one pass a seat that has raised is the only one that can be inside a section; and a store to a tag.
pub mod TurnAlone
-- The same after a set link, in each of its forms.
pub mod TurnSets
-- The same after a fill: a free node is in no search, nor in the plain tree.
pub mod TurnFills
-- The same after a raise: the search stands nowhere, and what is taken out is in the plain tree.
pub mod TurnRaises
-- What is said of turns, of nodes that leave the plain tree, and of a table of one pass, after every event.
pub mod StepTurns
-- As long as an entry is pending, the link to the node that an update has brought in is still to be set: after every
-- event.
pub mod LinkedLast

-- Kinds that keep what is said of turns.
