mod Others
mod Numbers
