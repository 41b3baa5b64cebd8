-- The promise: the disk of an image file, and the label that it begins with. Then what the sectors of a file are, as clauses see them.
pub mod ImageDisks
pub mod FileLabels
pub mod FileSectors
