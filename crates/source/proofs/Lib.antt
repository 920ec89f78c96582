-- Laws of the source, for its functions and for the crates above.
pub mod Sources
pub mod Inside
