pub mod AskingLemmas
pub mod ByteTables
pub mod CountLemmas
pub mod LeastOfRules
pub mod RangeLemmas
pub mod RepeatLemmas
