mod CellLemmas
mod SlotLemmas
mod NoteLemmas
