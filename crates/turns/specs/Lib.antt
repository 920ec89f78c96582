-- What the contract of an evaluation cites.
pub mod Turn
