-- Laws of the way out's turns.
pub mod Bounds
pub mod Turns
