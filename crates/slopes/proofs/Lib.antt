-- Laws of the check: what its walks leave to be asked, and how small the steps are.
pub mod Asking
