use Rattle.std.proofs.Common.{◌≡◌, ◌+◌, ◌<◌, ℕ, length, take, sym, ◌∙◌, ap, arith, rules, true, false}
use Rattle.std.proofs.lemmas.List.{take_all}
use Rattle.block_disk.specs.Calls.{stop_of, stops_of}
use Rattle.block_disk.specs.Crash.{done_at}
use Rattle.block_disk.proofs.Kept.{done_begun, done_ended, stops_of-more, cut_synced, cut_other}
use Rattle.block_disk.proofs.crash.done_calls.Goals as goal

pub returns-then-ended-calls-clause-done : goal.returns-then-ended-calls-clause-done
returns-then-ended-calls-clause-done c =
    let calls = c.args.calls.now in
    let is : c.args.ended ≡ length calls = c.if-ended-calls.true in
    ap stops_of (take_all c.args.ended calls (omega (arith, is))) ∙ sym (done_ended calls) ∙ ap (λ (n : ℕ). done_at (n + 1) (stops_of calls)) (sym is)

pub returns-then-is_sync-clause-done : goal.returns-then-is_sync-clause-done
returns-then-is_sync-clause-done c =
    let calls = c.args.calls.now in
    let call = c.index-calls-ended.result in
    let within : c.args.ended < length calls = search rules in
    sym (done_begun c.args.ended calls call within c.index-calls-ended.is ∙ cut_synced (stop_of call) (stops_of (take c.args.ended calls)) (c.is_sync.ensures.0 c.if-is_sync.true))

pub returns-else-is_sync-clause-done : goal.returns-else-is_sync-clause-done
returns-else-is_sync-clause-done c =
    let calls = c.args.calls.now in
    let call = c.index-calls-ended.result in
    let within : c.args.ended < length calls = search rules in
    stops_of-more calls c.args.ended call within c.index-calls-ended.is
    ∙ sym (done_begun c.args.ended calls call within c.index-calls-ended.is ∙ cut_other (stop_of call) (stops_of (take c.args.ended calls)) (λ is. let yes : c.is_sync.result ≡ true = c.is_sync.ensures.1 is in let other : c.is_sync.result ≡ false = c.if-is_sync.false in cc))
