pub mod Holding
pub mod Refusing
pub mod Ending
pub mod Standing
pub mod SchemaLemmas
pub mod Refused
