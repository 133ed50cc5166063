mod Items
mod Places
mod Standing
mod Turning
mod Showing
mod Reaching
mod Composing
mod Chaining
pub mod Alike
mod SameParts
