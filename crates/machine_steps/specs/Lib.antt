-- The view of a seat after a load or a store of its own, which changes this view alone and reads no other.
pub mod OwnViews
-- What is said of a step of a table: that its needs are met, and the views after it.
pub mod Changes
