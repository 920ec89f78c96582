-- What reading an image answers.
pub mod Read
