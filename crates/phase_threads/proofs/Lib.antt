mod Pairs
mod Outs
mod Closing
mod Ports
mod Away
mod Together
mod Sent
