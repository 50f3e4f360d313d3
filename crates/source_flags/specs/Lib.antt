pub mod FlagRows
pub mod FlagWords
pub mod InRange
pub mod Lines
pub mod Outside
