-- A session keeps to what the store needs to take each of its records.
use Rattle.std.proofs.Common.{ℕ, ◌≡◌, ◌+◌, List, [], ◌∷◌, map, All, refl, sym, ap, ◌∙◌, subst, inl, inr, arith}
use Rattle.std.proofs.lemmas.List.{length-map}
use Rattle.std.proofs.lemmas.List.Elements.{All-nil, All-cons, All-head, All-tail}
use Rattle.thread_rings.specs.Rings.{Sending, sent}
use Rattle.heap_model.specs.declared.record.Record.{Record}
use Rattle.heap_model.specs.declared.ids.Lane.{Lane}
use Rattle.heap_model.specs.Limits.{IsWithinLimits}
use Rattle.heap_model.specs.Own.{own_log, sent_of}
use Rattle.heap_model.specs.OwnSections.{held_in}
use Rattle.heap_model.specs.Sections.{action}
use Rattle.heap_model.specs.Setting.{Setting}
use Rattle.monitor.specs.Seats.{Home, Sitting}
use Rattle.monitor.specs.Views.{lane_of}
use Rattle.session.specs.declared.session.Session.{Session}
use Rattle.session.specs.Logs.{sent_in, actions_in, held_count}
use Rattle.session.specs.Past.{BeganBelow}
use Rattle.session.specs.Sessions.{capacity_of, ring_of, seat_of}
use Rattle.thread_steps.specs.Views.{plan, view, IsSeatOf}
use Rattle.trim_helper.specs.declared.ended.Ended.{Ended}
use Rattle.trim_helper.specs.Endings.{AreEnded, IsEnded, Rings, part_at, parts_of, place_read}
use Rattle.trim_helper.specs.Limits.{KeepsLimits}
use Rattle.trim_helper.specs.Moves.{IsEndOf}
use Rattle.trim_helper.specs.Serving.{Among, Part}
use Rattle.thread_heap.specs.Joined.{IsJoined}

pub keeps_limits : (start capacity : ℕ) (log : List Record) → IsWithinLimits (map action log) → BeganBelow (start + capacity) (map action log) → KeepsLimits start capacity log
keeps_limits start capacity [] within began = tt
keeps_limits start capacity (r ∷ older) within began =
    let long = length-map older action in (
      keeps_limits start capacity older within.0 began.0,
      record {
        short = within.1;
        low = λ none. let low = (began.1 none).1 in omega arith;
        room = λ none. let room = (began.1 none).0 in omega arith;
      },
    )

-- what a session leaves, as its helper meets it
pub ended_of : (h : Home) (c : ℕ) (rings : Rings) (x : Session) (e : Ended) (k : ℕ) → IsJoined h c rings x → e.seat ≡ seat_of x → e.producer ≡ ring_of x → k ≡ capacity_of x → e.lane ≡ lane_of e.seat.view →
    sent e.producer ≡ sent_in (view e.seat) → e.held ≡ held_count (view e.seat) → IsWithinLimits (actions_in (view e.seat)) → BeganBelow ((view e.seat).trimmed + k) (actions_in (view e.seat)) → IsEnded h c rings e
ended_of h c rings x e k joined seat ring capacity lane all_sent held within began =
    let of : IsSeatOf h e.seat = subst (IsSeatOf h) (sym seat) joined.of in
    let same : (view e.seat).plan ≡ plan h = of.1 in
    let at : (lane_of (seat_of x).view).0 ≡ e.lane.0 = ap (λ (s : Sitting). (lane_of s.view).0) (sym seat) ∙ ap (λ (l : Lane). l.0) (sym lane) in
    record {
      seat = (of.0, of.2);
      lane = ap (λ (l : Lane). l.0) lane;
      all_sent = all_sent ∙ ap (λ (s : Setting). sent_of s e.seat.view.events) same;
      limits = subst (λ (s : Setting). KeepsLimits (place_read e.seat) c (own_log s e.seat.view.events)) same
          (keeps_limits (place_read e.seat) c (own_log (view e.seat).plan e.seat.view.events) within
          (subst (λ n. BeganBelow ((view e.seat).trimmed + n) (actions_in (view e.seat))) (capacity ∙ joined.holds) began));
      held = held ∙ ap (λ (s : Setting). held_in s e.seat.view.events) same;
      ring = subst (λ (p : Sending). IsEndOf p rings e.lane.0) (sym ring) (subst (λ l. IsEndOf (ring_of x) rings l) at joined.ring);
    }

-- the list of those that met

module _ (h : Home) (c : ℕ) (rings : Rings) where
  pub are_ended : (es : List Ended) → All (IsEnded h c rings) es → AreEnded h c rings es
  are_ended [] all = tt
  are_ended (e ∷ es) all = (All-head (IsEnded h c rings) e es all, are_ended es (All-tail (IsEnded h c rings) e es all))

-- what is true of each part is true of each session
pub of_parts : (P : Part → Type 0) (es : List Ended) → ((x : Part) → Among (parts_of es) x → P x) → All (λ e. P (part_at e.seat)) es
of_parts P [] each = All-nil (λ e. P (part_at e.seat))
of_parts P (e ∷ es) each = All-cons (λ e. P (part_at e.seat)) e es (each (part_at e.seat) (inl refl)) (of_parts P es (λ x among. each x (inr among)))
