mod OptionLemmas
mod PathLemmas
