-- What the contracts of the floats cite beside the rules: what the code answers, and the sizes of rounded numbers.
pub mod Nearest
pub mod Sizes
pub mod Turned
