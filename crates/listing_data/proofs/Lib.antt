pub mod Contents
mod There
