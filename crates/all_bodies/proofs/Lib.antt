pub mod CountLemmas
pub mod Listed
pub mod PlaceLemmas
pub mod ReportLemmas
