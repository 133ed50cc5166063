pub mod Converged
pub mod Accepted
pub mod Stages
pub mod Laws
