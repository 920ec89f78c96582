-- What the contracts of the conversion cite.
pub mod Kinds
