-- What the contracts of an opened image cite.
pub mod Over
