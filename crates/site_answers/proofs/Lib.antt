mod Adding
mod Counting
mod Told
mod Named
mod Darkness
mod Taking
mod Answered
