pub mod PartLemmas
pub mod WritesLemmas
pub mod ToldLemmas
pub mod LaneLemmas
pub mod ReleaseLemmas
pub mod RefusalLemmas
pub mod OneLemmas
pub mod ReasonLemmas
