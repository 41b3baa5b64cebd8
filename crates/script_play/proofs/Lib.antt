mod FrontLemmas
mod PlayLemmas
mod MomentLemmas
mod CrashLemmas
mod StepLemmas
mod PlayingLemmas
