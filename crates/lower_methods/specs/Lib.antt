pub mod Laws
pub mod MethodParts
pub mod SoundMethods
