-- Rounding down and to the nearest (Rounding.antt), by which the rules are defined, and laws: of an integer as a difference, of distances,
-- of signed machine numbers, of booleans.
pub mod Difference
pub mod Distance
pub mod Rounding
pub mod Machine
pub mod Booleans
