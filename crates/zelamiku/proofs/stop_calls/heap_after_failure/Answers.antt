use Rattle.std.proofs.Common.{◌≡◌, Option, Some, None, IsSome, refl, ap, sym, ◌∙◌, subst}
use Rattle.host_heap.specs.Hosting.{Hosting}
use Rattle.host_heap.specs.Stopping.{Stopping}
use Rattle.host_heap.specs.declared.error.FailedCall.{FailedCall}
use Rattle.host_heap.specs.declared.error.FailedCall.TheVariants.{Write, Sync}
use Rattle.zelamiku.specs.Handles.{heap_held, stopped_held}
use Rattle.zelamiku.specs.declared.status.TheConstants.{NONE_LEFT, OK, STOPPED}
use Rattle.zelamiku.proofs.Stops.{failed_at}
use Rattle.zelamiku.proofs.stop_calls.heap_after_failure.Goals as goal

pub returns-in-None : goal.returns-in-None
returns-in-None c =
    let told = c.call_failed.ensures in
    let o : Option FailedCall = None in
    failed_at c.args.heap o (heap_held c.call_failed.new.self) NONE_LEFT (sym c.in-None.is ∙ told.which) (refl, ap (λ (x : Hosting). heap_held x) (told.other (λ e. let clash : o ≡ Some Sync = sym c.in-None.is ∙ e in absurd cc)))

pub returns-in-Some-Write : goal.returns-in-Some-Write
returns-in-Some-Write c =
    let told = c.call_failed.ensures in
    let o : Option FailedCall = Some Write in
    let found : c.call_failed.result ≡ o = c.in-Some-Write.is ∙ ap (λ (e : FailedCall). Some e) c.in-Some-Write.field-0-is in
    failed_at c.args.heap o (heap_held c.call_failed.new.self) OK (sym found ∙ told.which) (refl, ap (λ (x : Hosting). heap_held x) (told.other (λ e. let clash : o ≡ Some Sync = sym found ∙ e in absurd cc)))

pub returns-in-Some-Sync : goal.returns-in-Some-Sync
returns-in-Some-Sync c =
    let told = c.call_failed.ensures in
    let stop : Stopping = c.into_stop_word-word.result in
    let found : c.call_failed.result ≡ Some Sync = c.in-Some-Sync.is ∙ ap (λ (e : FailedCall). Some e) c.in-Some-Sync.field-0-is in
    failed_at c.args.heap (Some Sync) (stopped_held (Some stop)) STOPPED (sym found ∙ told.which) (
      refl,
      record {
        stop = stop;
        word = ap (λ (s : Stopping). s.word) c.into_stop_word-word.ensures ∙ told.same.word;
        written = subst (λ (s : Stopping). IsSome s.seen) (sym c.into_stop_word-word.ensures) (told.stopped found);
        left = refl;
      },
    )
