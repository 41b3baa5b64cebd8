-- What was applied is what the sessions sent, once they have met.
use Rattle.std.proofs.Common.{ℕ, ◌≡◌, List, [], ◌∷◌, ◌++◌, refl, sym, ap, ◌∙◌, inl, inr}
use Rattle.std.proofs.lemmas.List.Elements.{All-nil, All-cons}
use Rattle.heap_model.specs.declared.record.Record.{Record}
use Rattle.heap_model.specs.Own.{sent_of}
use Rattle.monitor.specs.Seats.{Home}
use Rattle.monitor.specs.Words.{setting_of}
use Rattle.trim_helper.specs.Closed.{AreSent, WasSent}
use Rattle.trim_helper.specs.Endings.{Rings, AreEnded, HoldNone, IsComplete, RefusesEnded, part_at, parts_of}
use Rattle.trim_helper.specs.Rings.{received_of, known_of}
use Rattle.trim_helper.specs.Serving.{Among, Part}
use Rattle.trim_helper.specs.declared.ended.Ended.{Ended}
use Rattle.trim_helper.specs.declared.close_error.CloseError.{CloseError}
use Rattle.trim_helper.specs.declared.close_error.CloseError.TheVariants.{Missing, Unfinished, Failed, Worn, Fault}
use Rattle.trim_helper.proofs.Gathering.{none_open}
use Rattle.trim_helper.proofs.Rounds.{Follows}

-- the lane's ring has what the part's thread sent
abbrev pub HasMet : Home → Rings → Part → Type 0
HasMet h rings x = received_of rings x.lane ++ known_of rings x.lane ≡ sent_of (setting_of h.plan) x.events

pub are_sent : (h : Home) (c : ℕ) (r0 r1 : Rings) (es : List Ended) (log : List (ℕ × Record)) → AreEnded h c r0 es → ((x : Part) → Among (parts_of es) x → HasMet h r1 x) → Follows r1 log → AreSent es log
are_sent h c r0 r1 [] log are each follows = All-nil (WasSent log)
are_sent h c r0 r1 (e ∷ es) log are each follows =
    let one = are.0 in
    let here = follows e.lane.0 in
    let whole = each (part_at e.seat) (inl refl) in
    All-cons (WasSent log) e es (here.0, one.all_sent ∙ sym whole ∙ ap (λ l. received_of r1 l ++ known_of r1 l) (sym one.lane) ∙ here.1) (are_sent h c r0 r1 es log are.1 (λ x among. each x (inr among)) follows)

-- sessions that are complete and hold nothing aren't refused
pub never_refused : (lanes : ℕ) (es : List Ended) (e : CloseError) → RefusesEnded lanes es e → HoldNone es → IsComplete lanes es → ⊥
never_refused lanes es (Missing l) why none complete = why.1 (complete l.0 why.0)
never_refused lanes es (Unfinished l) why none complete = none_open l.0 es none why.1
never_refused lanes es Failed why none complete = elim why [ ]
never_refused lanes es Worn why none complete = elim why [ ]
never_refused lanes es Fault why none complete = elim why [ ]
