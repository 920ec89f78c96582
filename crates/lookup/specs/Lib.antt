-- What the contracts of the lookups cite.
pub mod Held
