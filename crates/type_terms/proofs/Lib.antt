mod Comparing
pub mod Layers
pub mod MixedArguments
mod OrderLaws
pub mod SameLaws
