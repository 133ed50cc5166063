pub mod Noted
pub mod Standing
pub mod Renewal
pub mod Gathering
pub mod Due
pub mod Commands
