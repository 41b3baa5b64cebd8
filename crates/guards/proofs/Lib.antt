mod NameLemmas
mod FieldLemmas
mod LimitLemmas
