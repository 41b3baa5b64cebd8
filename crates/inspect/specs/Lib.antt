-- The promise: what public clauses state.
pub mod Written
pub mod Pieces
pub mod ReportText
pub mod Sections
pub mod Links
pub mod SectionText
pub mod TransientText
pub mod Drawn
pub mod GraphText
pub mod StudyText
pub mod WholeGraph
pub mod Pictured
pub mod Inspection
