-- Laws of the cell that the way out holds.
pub mod Held
