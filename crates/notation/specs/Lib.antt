-- What the functions answer, in parts of the rules, and the laws of degree notation.
pub mod Parts
pub mod Totals
pub mod Return
pub mod Formula
