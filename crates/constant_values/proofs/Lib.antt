pub mod UnitSteps
