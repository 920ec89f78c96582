-- Laws of the rounding that specs/Rounding.antt defines.
pub mod Rounding
