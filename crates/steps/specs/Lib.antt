-- What the contracts of the walk along a row cite.
pub mod Walk
