pub mod KeyOrders
pub mod Counting
mod Finding
mod Looking
