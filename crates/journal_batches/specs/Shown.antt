-- The image that a journaled device stands for: what the image's place holds, under the newest batch that is complete, and under the one before it where that is
-- complete too (docs/FORMAT.md, "A journal in two halves").
use Rattle.std.specs.Prelude.{ℕ, suc, ◌==◌, nat_lt, if◌then◌else◌, Bool, true, false, List, Option, Some, None}
use Rattle.journal_batches.specs.declared.areas.Areas.{Areas}
use Rattle.journal_batches.specs.Areas.{half_of, home_of}
use Rattle.journal_batches.specs.Batches.{Batch, batch_in}
use Rattle.journal_batches.specs.Entries.{replayed}

-- the image under a batch, and under the other one first where that is the one before it
abbrev pub under : (newest other : Batch) → List ℕ → List ℕ
under newest other home = replayed newest.entries (if suc other.stamp == newest.stamp then replayed other.entries home else home)

-- the image under the batches of both halves
abbrev pub under_both : (first second : Option Batch) → List ℕ → List ℕ
under_both None None home = home
under_both (Some b) None home = replayed b.entries home
under_both None (Some b) home = replayed b.entries home
under_both (Some b) (Some c) home = if nat_lt b.stamp c.stamp then under c b home else under b c home

-- whether the second half has the newest batch
abbrev pub is_second_newest : (first second : Option Batch) → Bool
is_second_newest None None = false
is_second_newest (Some b) None = false
is_second_newest None (Some b) = true
is_second_newest (Some b) (Some c) = nat_lt b.stamp c.stamp

-- what the device stands for
abbrev pub shown : Areas → List ℕ → List ℕ
shown a bytes = under_both (batch_in (half_of a false bytes)) (batch_in (half_of a true bytes)) (home_of a bytes)

-- which half has the newest batch: the second one where it is true
abbrev pub newest_half : Areas → List ℕ → Bool
newest_half a bytes = is_second_newest (batch_in (half_of a false bytes)) (batch_in (half_of a true bytes))
