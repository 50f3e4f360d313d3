mod Texts
mod Parts
mod Names
mod Numbers
mod Bytes
mod Labels
