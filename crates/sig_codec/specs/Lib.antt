pub mod Tokens
pub mod Spelling
pub mod Signature
pub mod Spellable
pub mod Reading
pub mod Writing
