pub mod Facts
pub mod Laws
pub mod Offers
pub mod Wants
