-- The theorems about kinds 0 and 3, in the order of specs/, whose definitions they speak of; those for readers are in Same.
pub mod Directions
pub mod SameNodes
pub mod Bytes
pub mod Corrections
pub mod KindLaws
pub mod Converted
pub mod Conversions
pub mod Same
