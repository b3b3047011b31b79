pub mod AskLemmas
pub mod ChunkLemmas
pub mod CodedLemmas
pub mod CodingLemmas
pub mod ReplyLemmas
pub mod TextLemmas
