-- What the contracts of the weighting cite.
pub mod Mean
