-- Laws of kind 2's ways.
pub mod Evaluations
