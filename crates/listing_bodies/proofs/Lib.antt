mod Opcodes
mod Operands
mod Labels
mod Clauses
mod CodeLines
mod Whole
