-- A helper whose store has failed goes on as it is.
use Rattle.std.proofs.Common.{ℕ, ◌≡◌, ◌++◌, List, false, true, OnErr, Result, sym, ap, ◌∙◌, subst, arith}
use Rattle.block_disk.specs.Device.{Device}
use Rattle.store_rounds.specs.Store as stores
use Rattle.store_rounds.specs.Store.{HasPast}
use Rattle.heap_model.specs.declared.record.Record.{Record}
use Rattle.thread_steps.specs.Views.{plan}
use Rattle.heap_model.specs.Past.{applied}
use Rattle.heap_model.specs.declared.store_error.StoreError.{StoreError}
use Rattle.trim_helper.specs.Hearing.{IsNoted}
use Rattle.trim_helper.specs.Rings.{held_back, stream, waiting_in}
use Rattle.trim_helper.proofs.Counting.{count_kept}
use Rattle.trim_helper.proofs.Noting.{count_noted, place_noted}
use Rattle.thread_heap.specs.Life.{FailedLaw}

pub failed_on : {D : Type 0} (device : D → Device) → FailedLaw device
failed_on {D} device h p x y answer was on round off =
    let still = round.still off in
    let same : y.store ≡ x.store = still.1 in
    let refused = round.failed off in
    let noted : IsNoted x.seat y.seat = subst (λ (a : Result ℕ StoreError). OnErr a (IsNoted x.seat y.seat)) refused round.unpublished in
    let unsettled : y.is_settled ≡ false = subst (λ (a : Result ℕ StoreError). OnErr a (y.is_settled ≡ false)) refused round.unsettled in
    let none : applied round.now ≡ applied p = round.same ∙ ap (λ (newer : List (ℕ × Record)). newer ++ applied p) still.0 in
    let lanes : y.store.known.threads ≡ x.store.known.threads = ap (λ (z : stores.Parts D). z.known.threads) same in (
      record {
        taken = record {
          has = subst (λ (z : stores.Parts D). HasPast z.known (plan h) p (device z.disk)) (sym same) was.taken.has;
          taken = λ l. round.serves.taken.taken l ∙ ap (λ (log : List (ℕ × Record)). stream l log ++ held_back (waiting_in y.waiting l)) none;
        };
        counts = λ l lt. let before = was.counts l (omega (arith, lt, lanes)) in let kept = count_noted x.seat y.seat l noted in omega (arith, before, kept);
        places = λ l lt. let before = was.places l (omega (arith, lt, lanes)) in let kept = place_noted x.seat y.seat l noted in omega (arith, before, kept);
        running = λ is. absurd (let no : false ≡ true = sym unsettled ∙ is in cc);
        settled = λ is. absurd (let no : false ≡ true = sym unsettled ∙ is in cc);
        trimmed = λ is. absurd (let no : false ≡ true = sym unsettled ∙ is in cc);
        published = λ is l lt. absurd (let no : false ≡ true = sym unsettled ∙ is in cc);
        stand = λ l n lt count. was.stand l n (omega (arith, lt, lanes)) (count_kept x.seat y.seat l n noted.notes count);
      },
      same,
    )
