mod PlanLemmas
mod StoreLemmas
mod ListLemmas
mod HomeLemmas
pub mod AgreementLemmas
mod MakingLemmas
mod SchemaLemmas
