pub mod Name
pub mod Order
pub mod Key
pub mod Instance
pub mod Inside
pub mod Reading
