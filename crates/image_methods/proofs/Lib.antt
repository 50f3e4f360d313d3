pub mod Bodies
pub mod Overriding
pub mod ParamRuns
