-- What a step is as an event: its kind, the name of its word, its value and its update.
pub mod StepParts
