pub mod Members
pub mod OneReport
pub mod SortedLists
