mod StateLemmas
mod EventLemmas
mod WaitLemmas
