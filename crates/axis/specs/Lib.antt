-- What the contracts of an axis cite.
pub mod Place
