-- What calls on several threads give and change.
pub mod Jobs
pub mod Places
