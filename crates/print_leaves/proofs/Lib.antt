pub mod Pages
pub mod Drawn
mod Lists
mod LineBegins
mod Digits
mod Escapes
mod Empties
mod Parts
mod HighBytes
mod Ids
mod Numbered
mod PairLists
