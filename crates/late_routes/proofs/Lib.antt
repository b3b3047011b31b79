pub mod ArrivalLemmas
