-- What is known of a plain row of cells.
pub mod Rows
