mod Tables
mod ParamRows
mod Pieces
