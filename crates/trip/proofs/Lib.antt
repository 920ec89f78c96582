-- The return promise, of the values of a trip.
pub mod Kept
pub mod Numbers
