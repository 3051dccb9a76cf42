-- The law of markers, by which the pages of a listing of version 1 follow one another.
pub mod MarkerLaw
