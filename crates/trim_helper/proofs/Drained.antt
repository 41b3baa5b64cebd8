-- Rings that hold one legal history are drained.
use Rattle.std.proofs.Common.{ℕ, ◌≡◌, List, length, reverse, sym, ap, ◌∙◌, subst, arith}
use Rattle.std.proofs.lemmas.List.{reverse-reverse}
use Rattle.heap_model.specs.declared.record.Record.{Record}
use Rattle.heap_model.specs.declared.event.Event.{Event}
use Rattle.heap_model.specs.Setting.{Setting}
use Rattle.heap_model.specs.History.{log_of}
use Rattle.heap_model.specs.Own.{own_log}
use Rattle.heap_model.specs.Log.{lane}
use Rattle.law_histories.specs.Laws.{LogLaw, OwnLogLaw, NextLaw}
use Rattle.block_disk.specs.Device.{Device}
use Rattle.heap_model.specs.Past.{Past, applied}
use Rattle.trim_helper.specs.Limits.{KeepsLimits}
use Rattle.trim_helper.specs.Taken.{Taking, HasTaken, AllStuck, trimmed_of}
use Rattle.trim_helper.specs.Serving.{HoldHistory}
use Rattle.trim_helper.proofs.Refusing.{drained}
use Rattle.trim_helper.proofs.Closing.{received_past}

pub history_drained : {D : Type 0} (device : D → Device) (x : Taking D) (s : Setting) (p : Past) (h : List (ℕ × Event)) → LogLaw → OwnLogLaw → NextLaw → length x.rings ≡ x.store.known.threads → HasTaken device x s p →
    HoldHistory x.rings x.store.known.layout s p h → AllStuck device x → (l : ℕ) → lane l (applied p) ≡ lane l (log_of s h)
history_drained device x s p h log_law own_log_law next count taken hold stuck =
    drained device x s p taken (log_of s h) (log_law s h hold.legal) next (λ l. ap (λ (xs : List Record). reverse xs) (own_log_law s h l) ∙ hold.whole l)
    (λ l le. own_log_law s h l ∙ sym (reverse-reverse (own_log s (lane l h))) ∙ ap (λ (xs : List Record). reverse xs) (hold.whole l ∙ received_past x.rings l (omega arith)))
    (λ l lt. subst (λ (xs : List Record). KeepsLimits (trimmed_of p l) x.store.known.layout.capacity xs) (sym (own_log_law s h l)) (hold.limits l (omega arith)))
    (λ l lt. stuck l (omega arith) s p taken.has)
