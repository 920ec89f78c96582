-- What the contracts of the values' readers cite.
pub mod Row
pub mod Either
