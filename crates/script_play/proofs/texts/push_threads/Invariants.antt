use Rattle.std.proofs.Common.{◌≡◌, ◌++◌, take, string_bytes}
use Rattle.script_play.specs.Texts.{woken_threads}
use Rattle.script_play.proofs.texts.push_threads.Given as goal

abbrev pub invariant-loop-lane : goal.invariant-loop-lane
invariant-loop-lane l = string_bytes l.text ≡ string_bytes l.initial.text ++ woken_threads (take l.lane-index l.lanes)
