-- What the contracts of the nodes' readers cite beside the rules, and two theorems for readers.
pub mod Reading
pub mod Burned
