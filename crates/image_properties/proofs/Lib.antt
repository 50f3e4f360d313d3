pub mod MethodPlaces
