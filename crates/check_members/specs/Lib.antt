pub mod BrokenSignatures
pub mod LoneMembers
pub mod MemberHashes
pub mod MemberKinds
pub mod MemberReading
pub mod OwnMethods
pub mod SameMembers
