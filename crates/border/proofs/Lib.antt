-- Laws of planes, for the functions that make lines of them and that ask these.
pub mod PlaneLines
