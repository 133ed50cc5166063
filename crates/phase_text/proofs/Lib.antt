mod StableSorts
mod Orders
mod Referring
mod Finding
mod Splitting
mod Told
