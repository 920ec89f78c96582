-- Laws of the lookups on separate grids.
pub mod Chosen
pub mod OnGrids
