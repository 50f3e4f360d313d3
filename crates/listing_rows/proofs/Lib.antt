mod Segments
mod Options
mod Walks
mod Filtered
mod Pieces
