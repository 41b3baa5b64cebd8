mod FileLemmas
mod HeadLemmas
mod ObeyLemmas
mod TellingLemmas
