-- What the threads' events and records are judged by.
use Rattle.std.specs.Prelude.{ℕ, Bool}

-- The plain schema of a heap, and the bound on its release numbers. Objects and fields are numbered from 0 (this project's own).
pub record Setting : Type 0 where
  -- how many objects and fields there are
  pub objects : ℕ
  pub fields : ℕ
  -- by field: the object whose monitor guards it, and the value that it has at first
  pub guard : ℕ → ℕ
  pub first : ℕ → ℕ
  -- by field: whether logs keep its stores. A field whose stores they don't keep is transient: no crash keeps its value
  pub is_logged : ℕ → Bool
  -- a monitor with this number or a greater one is never taken
  pub last : ℕ
