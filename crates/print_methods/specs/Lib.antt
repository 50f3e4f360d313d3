pub mod Tables
pub mod Pieces
