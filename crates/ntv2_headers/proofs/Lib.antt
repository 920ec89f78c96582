-- Laws about the headers.
pub mod Axes
pub mod Header
