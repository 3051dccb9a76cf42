-- What a bucket answers: listings, legal runs, and the passes through which a caller reaches the map.
pub mod Listing
pub mod PageEntries
pub mod PageParts
pub mod LegalRun
pub mod RunParts
pub mod PassView
pub mod Pool
pub mod Gathering
pub mod PlainPass
pub mod PlainInside
pub use Rattle.key_map.specs.Map
pub use Rattle.key_map.specs.History
pub use Rattle.key_names.specs.Names
pub mod PageInRange
