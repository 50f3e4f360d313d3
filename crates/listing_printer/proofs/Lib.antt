mod Parts
mod Ways
