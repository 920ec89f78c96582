-- What the contracts of the walks over all nodes cite.
pub mod Rows
pub mod Inside
