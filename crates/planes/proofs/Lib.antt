-- Laws of the conversion.
pub mod Places
