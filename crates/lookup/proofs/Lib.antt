-- Laws of the lookup and of held cells, for its functions and for the crates above.
pub mod Covering
pub mod Found
pub mod Places
