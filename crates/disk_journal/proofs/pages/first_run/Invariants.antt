use Rattle.std.proofs.Common.{◌≡◌, ◌/◌, ◌<◌, ◌≤◌, All, length, take}
use Rattle.disk_journal.proofs.pages.first_run.Given as goal

-- the entries so far lie in the page
abbrev pub invariant-loop-i : goal.invariant-loop-i
invariant-loop-i l = record {
  some : 0 < l.i;
  within : l.i ≤ length l.entries;
  page : All (λ e. e.at / 4096 ≡ l.page) (take l.i l.entries);
}
