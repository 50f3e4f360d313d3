pub mod BeginLemmas
pub mod ContentsLemmas
pub mod FormedLemmas
pub mod LayLemmas
pub mod RoomLemmas
pub mod WholeLemmas
pub mod WriteLemmas
