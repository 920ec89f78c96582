-- What reading digit by digit says of a text.
pub mod Reading
