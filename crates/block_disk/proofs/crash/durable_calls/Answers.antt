use Rattle.std.proofs.Common.{◌≡◌, [], ◌∷◌, sym, ◌∙◌, ap, true, false}
use Rattle.block_disk.specs.Calls.{stop_of, stops_of}
use Rattle.block_disk.specs.Memory.{durable_after}
use Rattle.block_disk.proofs.Kept.{stops_of-push, durable_next, front_is}
use Rattle.block_disk.proofs.crash.durable_calls.Goals as goal

pub loop-newest-preserved : goal.loop-newest-preserved
loop-newest-preserved c =
    let older = c.in-Some.older.now in
    let call = c.in-Some.newest.now in
    let split = c.in-Some.ensures.cases in
    let was = c.loop-newest.invariant in
    let stops = ap stops_of split.0 ∙ stops_of-push older call in
    let front = front_is c.args.calls.now c.loop-newest.rest.now older (call ∷ []) was.0 was.1 split.0 in (
      front.same,
      front.within,
      λ first. sym (durable_next first (stop_of call) (stops_of older)
          (λ is. let yes : c.is_sync.result ≡ true = c.is_sync.ensures.1 is in let other : c.is_sync.result ≡ false = c.if-is_sync.false in cc))
          ∙ sym (ap (durable_after first) stops) ∙ was.2 first,
    )
