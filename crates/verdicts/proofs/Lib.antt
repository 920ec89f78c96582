-- Laws of judging a trailer.
pub mod Grids
