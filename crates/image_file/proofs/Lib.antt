pub mod BesideLemmas
mod FormatLemmas
pub mod PlaceLemmas
mod RefusalLemmas
mod ReportLemmas
mod NamingLemmas
