-- A theorem for readers.
pub mod WrittenAgain
