mod Rising
mod Lower
