-- The text of a page's last entry as a marker.
pub mod Markers
