-- What a worker's session leaves.
use Rattle.std.proofs.Common.{ℕ, zero, suc, ◌≡◌, ◌+◌, ◌<◌, List, [], ◌∷◌, length, map, All, inl, inr, ap, subst, sym, ◌∙◌, arith}
use Rattle.std.specs.List.{range_with_len}
use Rattle.heap_model.specs.Own.{own_log}
use Rattle.heap_model.specs.OwnSections.{held_objects}
use Rattle.heap_model.specs.Sections.{action, holding}
use Rattle.heap_model.specs.Setting.{Setting}
use Rattle.std.proofs.lemmas.List.Elements.{All-head, All-tail}
use Rattle.block_disk.specs.Device.{Device}
use Rattle.image_parts.specs.declared.layout.Layout.{Layout}
use Rattle.thread_steps.specs.Views.{plan}
use Rattle.thread_work.specs.Bodies.{Answer, IsFirstRefusal, WasCalled}
use Rattle.thread_work.specs.Crashes.{HaveLeftOpen}
use Rattle.thread_work.proofs.Joining.{some_answer}
use Rattle.monitor.specs.Seats.{Home, Sitting}
use Rattle.session.specs.Sessions.{IsSessionOf, seat_of, view_of}
use Rattle.session.specs.declared.error.SessionError.{SessionError}
use Rattle.session.specs.declared.session.Session.{Session}
use Rattle.trim_helper.specs.Endings.{HoldNone, lanes_ended}
use Rattle.trim_helper.specs.declared.ended.Ended.{Ended}
use Rattle.thread_drive.specs.Working.{HasCounted, HoldsJust, StopsAt}

held_none : (h : Home) (s : Session) (e : Ended) → e.held ≡ length (holding (map action (own_log (plan h) e.seat.view.events))) → e.seat ≡ seat_of s → IsSessionOf h s → HoldsJust (view_of s) [] 0 → e.held ≡ 0
held_none h s e held same of free =
    held
    ∙ ap (λ (x : Sitting). length (holding (map action (own_log (plan h) x.view.events)))) same
    ∙ ap (λ (g : Setting). length (held_objects g (seat_of s).view.events)) (sym of.1)
    ∙ ap (λ (os : List ℕ). length os) free.held

-- no worker leaves a monitor held
free_all : (h : Home) (n : ℕ) (es : List Ended) → All (λ e. e.held ≡ length (holding (map action (own_log (plan h) e.seat.view.events)))) es → All (λ e. (a : Answer) × WasCalled HasCounted h n e a) es → HoldNone es
free_all h n [] held called = tt
free_all h n (e ∷ es) held called =
    let one = (All-head (λ e. (a : Answer) × WasCalled HasCounted h n e a) e es called).1 in (
      held_none h one.left e (All-head (λ e. e.held ≡ length (holding (map action (own_log (plan h) e.seat.view.events)))) e es held) one.seat one.did.of one.did.free,
      free_all h n es (All-tail (λ e. e.held ≡ length (holding (map action (own_log (plan h) e.seat.view.events)))) e es held) (All-tail (λ e. (a : Answer) × WasCalled HasCounted h n e a) e es called),
    )

pub never_open : (h : Home) (l : Layout) (opened new : Device) → HaveLeftOpen HasCounted h l opened new → ⊥
never_open h l opened new left =
    let are = left.left.are in
    left.holds (free_all h l.capacity left.ended are.held (some_answer HasCounted h l.capacity are.answer left.ended are.called))

-- the first refusal of some lanes is why one of them has ended early
pub first_stops : (h : Home) (n k m : ℕ) (r : SessionError) (es : List Ended) → lanes_ended es ≡ range_with_len k m → IsFirstRefusal HasCounted h n r es → (lane : ℕ) × (lane < k + m) × StopsAt h (lane + 1) n r
first_stops h n k m r [] lanes has = absurd has
first_stops h n k zero r (e ∷ es) lanes has = absurd (let clash : ◌≡◌ {A = List ℕ} (e.lane.0 ∷ lanes_ended es) [] = lanes in cc)
first_stops h n k (suc m) r (e ∷ es) lanes has =
    let both : ◌≡◌ {A = List ℕ} (e.lane.0 ∷ lanes_ended es) (k ∷ range_with_len (k + 1) m) = lanes in
    let here : e.lane.0 ≡ k = cc in
    let rest : lanes_ended es ≡ range_with_len (k + 1) m = cc in
    elim has [
      | inl called ↦ (
        e.lane.0,
        omega (arith, here),
        subst (λ (l : ℕ). StopsAt h (l + 1) n r) called.lane (subst (λ (c : ℕ). StopsAt h ((view_of called.first).lane.0 + 1) c r) called.holds called.did.refused),
      )
      | inr later ↦ (
          let stops = first_stops h n (k + 1) m r es rest later.1 in
          let low = stops.1 in
          (stops.0, omega (arith, low), stops.2))
    ]
