pub mod InterfaceSets
pub mod MemberRuns
