-- What the steps of the running table ask and leave, and what a pass keeps at run time.
pub mod Passes
pub mod Made
pub mod Kept
pub mod Gives
pub mod Stamps
pub mod Updates
pub mod Raises
pub mod Retires
pub mod Cuts
pub mod Notes
pub mod Opens
pub mod Closes
pub mod Loads
pub mod Links
pub mod Parcels
