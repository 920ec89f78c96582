-- Division in steps, over ℕ; the law of the nearest number, over every width and scale; what an answer tells; the order of
-- bits; the scales in use; tests of a range of nodes.
pub mod Dividing
pub mod Widths
pub mod Ordered
pub mod Scales
pub mod Turning
pub mod Every
