pub mod BodyDemands
