-- A view with what it has gained from another one, and the lists that a raise makes longer.
pub mod Gains
