-- Pages: the law of pages, the ranks of names, and the cursor that makes a page.
pub mod PageLaw
pub mod PrefixRanks
pub mod GroupEnd
pub mod Cursor
pub mod CursorInside
