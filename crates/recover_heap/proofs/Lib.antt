pub mod HeapLemmas
pub mod HomeLemmas
pub mod PuttingLemmas
