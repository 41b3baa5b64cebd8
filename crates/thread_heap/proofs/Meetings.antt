-- What closing gives, by sessions.
use Rattle.std.proofs.Common.{ℕ, ◌≡◌, ◌<◌, ◌≤◌, List, [], ◌∷◌, length, All, Result, Ok, Err, IfOk, refl, inl, inr, arith}
use Rattle.std.proofs.lemmas.List.Elements.{All-nil, All-cons, All-head, All-tail}
use Rattle.block_disk.specs.Device.{Device}
use Rattle.heap_model.specs.Log.{lane}
use Rattle.image_parts.specs.declared.layout.Layout.{Layout}
use Rattle.heap_model.specs.History.{log_of}
use Rattle.heap_model.specs.declared.record.Record.{Record}
use Rattle.monitor.specs.Seats.{Helping, Home}
use Rattle.thread_steps.specs.Views.{plan}
use Rattle.trim_helper.specs.Closed.{IsClosedDown}
use Rattle.trim_helper.specs.Counts.{IsCutCount, WasCount}
use Rattle.trim_helper.specs.declared.ended.Ended.{Ended}
use Rattle.trim_helper.specs.Endings.{IsEnded, Rings, part_at, parts_of}
use Rattle.trim_helper.specs.Serving.{Among, Part}
use Rattle.trim_helper.proofs.Gathering.{end_below}
use Rattle.heap_model.specs.Past.{Past}
use Rattle.trim_helper.specs.Taken.{trimmed_of}
use Rattle.thread_heap.specs.Closed.{IsClosed, IsClosedFrom, WasTold, WereTold}
use Rattle.thread_heap.proofs.Ending.{of_parts}

pub closed_of : (h : Home) (l : Layout) (es : List Ended) (p : Past) (seat : Helping) (since d : Device) → IsClosedDown h.plan l (parts_of es) p seat since d → IsClosed h l es d
closed_of h l es p seat since d down = record {
  history = down.history;
  legal = down.one.legal;
  told = of_parts (λ x. lane x.lane down.history ≡ x.events) es down.one.part;
  no_other = down.one.no_other;
  words = down.words;
  spelled = down.spelled;
  now = down.now;
  logs = down.logs;
  left = down.left;
  stands = down.stands;
  values = down.values;
}

-- what is known of a part, by which its session was told
record KnownPart (log : List (ℕ × Record)) (seat : Helping) (acknowledged trimmed : ℕ → ℕ) (x : Part) : Type 0 where
  stable : x.count ≤ acknowledged x.lane
  trimmed_to : x.place ≤ trimmed x.lane
  published : WasCount seat x.lane x.count
  in_cut : IsCutCount log x.lane x.count

told_of : (h : Home) (c lanes : ℕ) (rings : Rings) (log : List (ℕ × Record)) (seat : Helping) (acknowledged trimmed : ℕ → ℕ) (es : List Ended) → length rings ≡ lanes → All (IsEnded h c rings) es →
    ((x : Part) → Among (parts_of es) x → x.lane < lanes → KnownPart log seat acknowledged trimmed x) → WereTold log seat acknowledged trimmed es
told_of h c lanes rings log seat acknowledged trimmed [] count all known = All-nil (WasTold log seat acknowledged trimmed)
told_of h c lanes rings log seat acknowledged trimmed (e ∷ es) count all known =
    let one = All-head (IsEnded h c rings) e es all in
    let low = end_below e.producer rings e.lane.0 one.ring in
    let same = one.lane in
    let here = known (part_at e.seat) (inl refl) (omega (arith, low, same, count)) in
    All-cons (WasTold log seat acknowledged trimmed) e es
    (record { stable = here.stable; trimmed_to = here.trimmed_to; published = here.published; in_cut = here.in_cut })
    (told_of h c lanes rings log seat acknowledged trimmed es count (All-tail (IsEnded h c rings) e es all) (λ x among. known x (inr among)))

pub closed_from : (h : Home) (l : Layout) (c : ℕ) (rings : Rings) (es : List Ended) (p : Past) (seat : Helping) (since d : Device) → length rings ≡ h.plan.lanes → All (IsEnded h c rings) es →
    IsClosedDown h.plan l (parts_of es) p seat since d → IsClosedFrom h l es p seat since d
unfolding closed_of
closed_from h l c rings es p seat since d count all down = record {
  closed = closed_of h l es p seat since d down;
  later = down.later;
  ran = down.ran;
  told = told_of h c h.plan.lanes rings (log_of (plan h) down.history) seat p.cut (trimmed_of p) es count all
      (λ x among lt. record { stable = down.told x among lt; trimmed_to = down.places x among lt; published = down.published x among lt; in_cut = down.counts x among lt });
}

-- an answer that says more
pub ok_more : {A E : Type 0} (P Q : A → Type 0) (r : Result A E) → ((x : A) → P x → Q x) → IfOk r P → IfOk r Q
ok_more P Q (Ok x) more is = more x is
ok_more P Q (Err e) more is = tt
