pub mod MemberMeanings
