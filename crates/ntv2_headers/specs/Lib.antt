-- What the contracts of the headers' readers cite beside the rules.
pub mod Reading
