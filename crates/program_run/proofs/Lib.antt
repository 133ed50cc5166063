mod Goings
mod Playing
mod Endings
