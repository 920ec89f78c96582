-- Laws of the walk along a row, for its functions and for the crate above.
pub mod Readings
pub mod Folds
