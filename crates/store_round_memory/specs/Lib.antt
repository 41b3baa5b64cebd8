-- What public clauses state.
pub mod Counting
pub mod Surveys
pub mod Rounds
pub mod Inside
