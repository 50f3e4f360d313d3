pub mod Asking
pub mod Chains
pub mod Links
pub mod Meetings
pub mod StateMeanings
pub mod Waiting
