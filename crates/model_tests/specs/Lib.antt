-- What a test knows of the records that it told.
pub mod Known
