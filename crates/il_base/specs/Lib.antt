pub mod Calls
pub mod Memory
pub mod Numbers
pub mod Outside
pub mod Stock
pub mod StoredFiles
pub use Rattle.byteorder.specs.Endian
