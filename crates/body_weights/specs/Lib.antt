pub mod Bodies
pub mod Tokens
