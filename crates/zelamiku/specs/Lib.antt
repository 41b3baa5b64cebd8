-- What a handle owns, and what it has.
pub mod Own
pub mod Lending
pub mod Handles
pub mod Ended
-- What the calls of a session answer.
pub mod SessionDoors
pub mod StopDoors
pub mod SessionStatuses
pub mod PoolDoors
-- What C's calls of a heap answer.
pub mod HeapStatuses
pub mod HeapDoors
pub mod ReportDoors
pub mod OpeningDoors
pub mod HandleDoors
pub mod HeadDoors
pub mod LayoutDoors
pub mod CopyDoors
-- What C's calls of a journal answer.
pub mod JournalStatuses
pub mod JournalDoors
