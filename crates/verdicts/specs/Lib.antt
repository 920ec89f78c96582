-- What the contracts of judging a trailer cite.
pub mod Verdict
