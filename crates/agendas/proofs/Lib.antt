mod Places
mod Sorted
