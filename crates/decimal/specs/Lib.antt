-- What the contracts of reading a decimal number cite.
pub mod Text
