mod Names
mod Shapes
mod Types
