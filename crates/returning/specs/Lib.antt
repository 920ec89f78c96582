-- The return promise (demand 3): values between nodes, the way out over any corrections, the trips over any source; a dense grid inside the
-- coarse one, from GridLines to Crossing; grids that pass the check; kind 2, from Edge to Anywhere; and the promise.
pub mod Line
pub mod Points
pub mod Interpolation
pub mod Iteration
pub mod Angles
pub mod Trips
pub mod GridLines
pub mod Sides
pub mod Nearest
pub mod Crossing
pub mod Passing
pub mod Nested
pub mod Edge
pub mod Unbounded
