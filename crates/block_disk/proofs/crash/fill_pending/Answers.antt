use Rattle.std.proofs.Common.{◌≡◌, ◌∷◌, ◌++◌, [], ℕ, List, length, sym, ◌∙◌, ap, subst, true, false}
use Rattle.block_disk.specs.Calls.{stop_of, stops_of, AllFit}
use Rattle.block_disk.specs.Crash.{filled}
use Rattle.block_disk.specs.Memory.{pending_after}
use Rattle.block_disk.specs.declared.call.Call.{Call}
use Rattle.block_disk.proofs.Kept.{stops_of-push, filled_next, front_fits}
use Rattle.block_disk.proofs.crash.fill_pending.Goals as goal

pub loop-newest-preserved : goal.loop-newest-preserved
loop-newest-preserved c =
    let older = c.in-Some.older.now in
    let call = c.in-Some.newest.now in
    let rest : c.loop-newest.rest.now ≡ older ++ call ∷ [] = c.in-Some.ensures.cases.0 in
    let stops = ap stops_of rest ∙ stops_of-push older call in
    let fit : AllFit (length c.loop-newest.image) (older ++ call ∷ []) = subst (λ (cs : List Call). AllFit (length c.loop-newest.image) cs) rest c.loop-newest.invariant.1 in (
      ap (λ (image : List ℕ). filled c.args.byte (pending_after (stops_of older)) image) c.fill_one.ensures
          ∙ sym (filled_next c.args.byte c.loop-newest.image (stop_of call) (stops_of older) (λ is. let yes : c.is_sync.result ≡ true = c.is_sync.ensures.1 is in let other : c.is_sync.result ≡ false = c.if-is_sync.false in cc))
          ∙ sym (ap (λ ss. filled c.args.byte (pending_after ss) c.loop-newest.image) stops) ∙ c.loop-newest.invariant.0,
      subst (λ (n : ℕ). AllFit n older) (sym c.fill_one.auto.image) (front_fits (length c.loop-newest.image) older (call ∷ []) fit),
    )
