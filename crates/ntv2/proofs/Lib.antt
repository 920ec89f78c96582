-- Laws about refusals 18 and 19, and two theorems for readers.
pub mod Passing
pub mod Shifts
pub mod Burned
