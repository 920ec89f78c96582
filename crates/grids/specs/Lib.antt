-- What the contracts of the lookups on two grids cite.
pub mod Grids
