-- What the contracts of the way out cite.
pub mod Answer
