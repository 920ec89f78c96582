-- Laws of the bilinear value, over natural numbers and over ℤ.
pub mod Mixes
pub mod Gaps
pub mod Divided
pub mod Near
