-- Laws of the values' places in an image.
pub mod Parts
