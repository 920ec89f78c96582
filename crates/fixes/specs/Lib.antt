-- What the contracts of the lists cite, and what they mean for each answer.
pub mod Fix
pub mod Content
