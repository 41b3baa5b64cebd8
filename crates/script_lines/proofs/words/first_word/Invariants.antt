use Rattle.std.proofs.Common.{length, ◌-◌, ◌≡◌, ◌≤◌, ◌++◌, take, drop}
use Rattle.script_lines.specs.Cutting.{word_of, after_word}
use Rattle.script_lines.proofs.words.first_word.Given as goal

abbrev pub invariant-loop-at : goal.invariant-loop-at
invariant-loop-at l = (l.at ≤ length l.bytes) × (word_of l.bytes ≡ take l.at l.bytes ++ word_of (drop l.at l.bytes))
    × (after_word l.bytes ≡ after_word (drop l.at l.bytes))

abbrev pub decreases-loop-at : goal.decreases-loop-at
decreases-loop-at l = length l.bytes - l.at
