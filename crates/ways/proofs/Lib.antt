-- Laws of a conversion over an opened image.
pub mod Edge
