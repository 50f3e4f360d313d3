pub mod Deciding
pub mod Liking
pub mod Owning
pub mod Signing
pub mod Typing
