-- Laws of a file: how refusals 16 and 17 are tested.
pub mod Header
pub mod Highest
