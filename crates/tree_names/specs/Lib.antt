pub mod Called
pub mod Laws
pub mod Looking
pub mod Named
