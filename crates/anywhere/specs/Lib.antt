-- What the contracts of kind 2's ways cite.
pub mod Unbounded
