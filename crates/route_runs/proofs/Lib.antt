mod Adding
mod Answered
mod Follows
