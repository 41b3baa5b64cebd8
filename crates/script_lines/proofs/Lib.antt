mod TermLemmas
pub mod WordLemmas
pub mod AskLemmas
mod LineLemmas
mod CutLemmas
mod FaultLemmas
