-- The views after a split and a join, as the code makes them: the new view of a split is first put after the others.
pub mod SplitViews
-- What the needs of a step, when they are met, say of its seat.
pub mod StepMet
