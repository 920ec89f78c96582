-- Document 02, note 8: kinds 0 and 3 answer alike. Both conversions as one; grids with the same nodes; the bytes that a number is read
-- from; the corrections in either layout; images of both kinds, and what a conversion makes of one; the conversions; and the theorems for
-- readers, Same.
pub mod Directions
pub mod SameNodes
pub mod Bytes
pub mod Corrections
pub mod Kinds
pub mod Conversions
pub mod Same
