pub mod Spelled
pub mod MaskLaws
pub mod MaskSteps
pub mod Listing
