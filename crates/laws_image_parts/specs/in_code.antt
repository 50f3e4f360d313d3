pub mod Following
pub mod Given
