mod FrontLemmas
pub mod TextLemmas
pub mod NameLemmas
mod SchemaLemmas
mod DeclarationLemmas
mod FieldLemmas
