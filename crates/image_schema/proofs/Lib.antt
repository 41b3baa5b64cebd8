mod WritingLemmas
pub mod FitLemmas
mod DumpLemmas
mod DrawLemmas
mod RoundTrip
