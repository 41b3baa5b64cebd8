mod FirstLemmas
mod OpeningLemmas
mod StopLemmas
mod ReasonLemmas
mod RunLemmas
mod StrictLemmas
mod ValueLemmas
