use Rattle.std.proofs.Common.{◌≡◌, ◌⊎◌, ℕ, ◌<◌, ◌≤◌, true, false, get_or, length}
use Rattle.disk_sectors.proofs.marks.mark_all.Given as goal

-- those so far are marked, and no other is unmarked that wasn't
abbrev pub invariant-loop-i : goal.invariant-loop-i
invariant-loop-i l = (length l.marks.items ≡ length l.fn.marks.items) × ((j : ℕ) → get_or l.marks.items j true ≡ false → (get_or l.fn.marks.items j true ≡ false) × ((j < l.from) ⊎ (l.i ≤ j)))
