-- Records that go on from a heap (this project's own). A list of (lane, record) has its newest record first.
use Rattle.std.specs.Prelude.{ℕ, ◌≡◌, ◌≢◌, false, List, [], ◌++◌, None}
use Rattle.heap_model.specs.declared.record.Record.{Record}
use Rattle.heap_model.specs.Log.{lane, holder, IsLegal}
use Rattle.heap_model.specs.Setting.{Setting}
use Rattle.heap_model.specs.Past.{has_store}

-- the setting whose fields begin with the values of this heap
abbrev pub from_heap : Setting → (heap : ℕ → ℕ) → Setting
from_heap s heap = record s { first = heap }

-- The records are legal over the setting's first heap, where all monitors are free before them, each at some number: so often another lane
-- has taken and freed it, and stored nothing.
pub record GoesOn (s : Setting) (records : List (ℕ × Record)) : Type 0 where
  pub before : List (ℕ × Record)
  pub legal : IsLegal s (records ++ before)
  pub free : (object : ℕ) → holder object before ≡ None
  pub unstored : (field : ℕ) → has_store field before ≡ false
  pub other : ℕ
  pub own : (l : ℕ) → l ≢ other → lane l before ≡ []
  pub apart : lane other records ≡ []
