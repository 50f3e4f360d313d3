pub mod Numbers
pub mod Constants
pub mod Terms
pub mod References
pub mod Bodies
pub mod Members
pub mod Whole
