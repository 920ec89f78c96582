-- What the contracts of the opening cite.
pub mod Fit
