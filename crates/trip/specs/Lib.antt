-- What the contracts of a trip cite.
pub mod Back
