-- Laws of the walks over all rows.
pub mod Rows
pub mod Maxima
pub mod Outcomes
