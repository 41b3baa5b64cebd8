use Rattle.std.proofs.Common.{ℕ, length, ◌≢◌, ◌≤◌, ◌<◌, get_or}
use Rattle.script_lines.specs.declared.lines.TheConstants.{LINE_FEED}
use Rattle.script_lines.proofs.lines.ended_len.Given as goal

abbrev pub invariant-loop-len : goal.invariant-loop-len
invariant-loop-len l = (l.len ≤ length l.text) × ((at : ℕ) → l.len ≤ at → at < length l.text → get_or l.text at 0 ≢ LINE_FEED)

abbrev pub decreases-loop-len : goal.decreases-loop-len
decreases-loop-len l = l.len
