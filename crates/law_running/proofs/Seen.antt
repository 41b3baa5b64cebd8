-- What a helper has applied, by the history that it has seen.
use Rattle.std.proofs.Common.{ℕ, ◌≡◌, ◌≤◌, List, [], ◌∷◌, ◌++◌, length, reverse, refl, sym, ap, ◌∙◌, inl, inr, append_assoc}
use Rattle.std.proofs.lemmas.Bool.{cases_lt}
use Rattle.std.proofs.lemmas.List.{append-nil, reverse-append, reverse-reverse}
use Rattle.heap_model.specs.declared.event.Event.{Event}
use Rattle.heap_model.specs.declared.record.Record.{Record}
use Rattle.heap_model.specs.History.{log_of}
use Rattle.heap_model.specs.Log.{lane}
use Rattle.heap_model.specs.Own.{own_log, sent_of}
use Rattle.heap_model.specs.Setting.{Setting}
use Rattle.block_disk.specs.Device.{Device}
use Rattle.law_cuts.proofs.Lanes.{lane_append}
use Rattle.law_histories.specs.Laws.{OwnLogLaw, SentLaw}
use Rattle.thread_rings.specs.Following.{from_release, to_release}
use Rattle.monitor.specs.Seats.{Home}
use Rattle.monitor.specs.Views.{GoesOn}
use Rattle.law_running.specs.Released.{IsReleasedPrefix}
use Rattle.law_running.proofs.ReleaseLemmas.{parts}
use Rattle.thread_steps.specs.Views.{plan}
use Rattle.heap_model.specs.Past.{Past, applied}
use Rattle.trim_helper.specs.Heard.{IsSeenOf}
use Rattle.trim_helper.specs.Parts.{IsServing, Parts}
use Rattle.trim_helper.specs.Rings.{held_back, received_of, stream, waiting_in}
use Rattle.trim_helper.specs.Seen.{BeginsLog}
use Rattle.trim_helper.proofs.Closing.{received_past}

-- where nothing is in two lists, nothing is in the first
nothing_first : {A : Type 0} (xs ys : List A) → xs ++ ys ≡ [] → xs ≡ []
nothing_first [] ys none = refl
nothing_first (x ∷ xs) ys none = absurd cc

module _ (sent : SentLaw) (own : OwnLogLaw) (h : Home) (seen later : List (ℕ × Event)) (goes : GoesOn later seen) where
  -- what a later history logs of a lane goes on from what the seen one does
  sent_later : (l : ℕ) → sent_of (plan h) (lane l later) ≡ sent_of (plan h) (lane l seen) ++ sent_of (plan h) (lane l goes.0)
  sent_later l = ap (λ (xs : List (ℕ × Event)). sent_of (plan h) (lane l xs)) goes.1 ∙ ap (sent_of (plan h)) (lane_append l goes.0 seen) ∙ sent (plan h) (lane l goes.0) (lane l seen)

  -- a lane, where the seen history begins with it up to its last release
  lane_seen : (l : ℕ) (log : List (ℕ × Record)) → BeginsLog h.plan l seen (to_release (stream l log)) → (more : List Record) × (lane l (log_of (plan h) later) ≡ more ++ from_release (lane l log))
  lane_seen l log begins =
      let up : List Record = from_release (lane l log) in
      let rest : List Record = begins.0 ++ sent_of (plan h) (lane l goes.0) in
      let all : sent_of (plan h) (lane l later) ≡ reverse up ++ rest =
      sent_later l ∙ ap (λ (xs : List Record). xs ++ sent_of (plan h) (lane l goes.0)) (begins.1 ∙ ap (λ (xs : List Record). reverse (from_release xs) ++ begins.0) (reverse-reverse (lane l log)))
      ∙ append_assoc (reverse up) begins.0 (sent_of (plan h) (lane l goes.0)) in (
        reverse rest,
        own (plan h) later l ∙ sym (reverse-reverse (own_log (plan h) (lane l later))) ∙ ap (λ (xs : List Record). reverse xs) all ∙ reverse-append (reverse up) rest
            ∙ ap (λ (xs : List Record). reverse rest ++ xs) (reverse-reverse up),
      )

-- a lane without a ring, of which nothing can have been applied
lane_past : {D : Type 0} (device : D → Device) (s : Setting) (p : Past) (x : Parts D) (l : ℕ) → IsServing device x s p → length x.rings ≤ l → lane l (applied p) ≡ []
lane_past device s p x l serving past =
    let none : received_of x.rings l ≡ [] = nothing_first (received_of x.rings l) _ (received_past x.rings l past) in
    let applied_none : stream l (applied p) ≡ [] = nothing_first (stream l (applied p)) (held_back (waiting_in x.waiting l)) (sym (serving.taken.taken l) ∙ none) in
    sym (reverse-reverse (lane l (applied p))) ∙ ap (λ (xs : List Record). reverse xs) applied_none

-- each later history has of each lane what was applied up to its last release
pub seen_first : {D : Type 0} (device : D → Device) → SentLaw → OwnLogLaw → (h : Home) (p : Past) (x : Parts D) (seen later : List (ℕ × Event)) → IsServing device x (plan h) p → IsSeenOf h (length x.rings) p seen →
    GoesOn later seen → IsReleasedPrefix (applied p) (log_of (plan h) later)
seen_first device sent own h p x seen later serving is_seen goes l = elim (cases_lt l (length x.rings)) [
  | inl lt ↦ lane_seen sent own h seen later goes l (applied p) (is_seen l lt)
  | inr past ↦ (
    lane l (log_of (plan h) later),
    sym (append-nil (lane l (log_of (plan h) later))) ∙ ap (λ (xs : List Record). lane l (log_of (plan h) later) ++ from_release xs) (sym (lane_past device (plan h) p x l serving past)),
  )
]

-- a lane that the seen history has logged just so, up to its last release
logged_lane : OwnLogLaw → (h : Home) (log : List (ℕ × Record)) (seen : List (ℕ × Event)) (l : ℕ) → lane l log ≡ lane l (log_of (plan h) seen) → BeginsLog h.plan l seen (to_release (stream l log))
logged_lane own h log seen l same =
    let xs : List Record = lane l log in
    let behind = parts xs in (
      reverse behind.0,
      ap (λ (r : List Record). reverse r) (sym (own (plan h) seen l) ∙ sym same ∙ behind.1) ∙ reverse-append behind.0 (from_release xs)
          ∙ ap (λ (r : List Record). reverse (from_release r) ++ reverse behind.0) (sym (reverse-reverse xs)),
    )

-- each history that goes on from one that has logged all has of each lane what was applied up to its last release
pub logged_first : SentLaw → OwnLogLaw → (h : Home) (log : List (ℕ × Record)) (seen later : List (ℕ × Event)) → ((l : ℕ) → lane l log ≡ lane l (log_of (plan h) seen)) →
    GoesOn later seen → IsReleasedPrefix log (log_of (plan h) later)
logged_first sent own h log seen later logs goes l = lane_seen sent own h seen later goes l log (logged_lane own h log seen l (logs l))
