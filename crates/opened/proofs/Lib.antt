-- What opening an image says of the record.
pub mod Opening
