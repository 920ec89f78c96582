-- What the contracts of the source cite.
pub mod Asked
