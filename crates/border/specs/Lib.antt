-- What the contracts of question 21 cite.
pub mod Lines
