-- What the public clauses state: which bits a word has, and what it says of a monitor.
pub mod LockWord
pub mod FatWord
pub mod WaitMask
pub mod Spelling
pub mod Members
pub mod Laws
-- What only proofs need.
pub mod OneMask
