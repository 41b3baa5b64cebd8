pub mod Beginnings
pub mod Calls
pub mod Filling
pub mod LabelLemmas
pub mod Laying
pub mod Sizes
pub mod TwoAreas
pub mod InUnits
