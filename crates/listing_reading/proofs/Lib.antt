mod Forests
mod Searches
mod Rows
mod Runs
