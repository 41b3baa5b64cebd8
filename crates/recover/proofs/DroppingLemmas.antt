-- What the report says of the lanes' live sections.
use Rattle.std.proofs.Common.{ℕ, suc, ◌≡◌, ◌+◌, ◌-◌, ◌<◌, ◌≤◌, ◌==◌, if◌then◌else◌, ◌++◌, true, false, List, [], ◌∷◌, append_assoc, sym, ap, ◌∙◌, inl, inr, arith}
use Rattle.std.proofs.lemmas.Bool.{cases_lt}
use Rattle.heap_model.specs.Log.{lane}
use Rattle.heap_model.specs.Sections.{Action, Frees, ended, Section, Did}
use Rattle.heap_model.specs.Cuts.{Counts}
use Rattle.law_cuts.proofs.Stores.{ended_rises}
use Rattle.dependence.specs.Reason.{IsLeftOut, IsReason, Previous, Releaser}
use Rattle.recover.specs.declared.report.Dropped.{Dropped}
use Rattle.recover.specs.Dropping.{AreEntriesOf, IsEntryOf, sections_after}

-- a lane's sections don't become fewer
lane_rises : (l m : ℕ) (x : Action) (older : List (ℕ × Action)) → ended (lane l older) ≤ ended (lane l ((m, x) ∷ older))
lane_rises l m x older = elim (m == l) as (λ b. ended (lane l older) ≤ ended (if b then x ∷ lane l older else lane l older)) [ true ↦ ended_rises x (lane l older) | false ↦ omega arith ]

-- what a section did was in its lane, and the section is whole or the one after those that are
pub did_low : (log : List (ℕ × Action)) (a : Section) (act : Action) → Did log a act → a.number ≤ ended (lane a.lane log) + 1
did_low [] a act h = absurd h
did_low ((m, x) ∷ older) a act h = elim h [
  | inl top ↦
      let at_lane : a.lane ≡ m = ap (λ (s : Section). s.lane) top.0 in
      let number : a.number ≡ ended (lane m older) + 1 = ap (λ (s : Section). s.number) top.0 in
      omega (arith, number, ap (λ (k : ℕ). ended (lane k older)) at_lane, lane_rises a.lane m x older)
  | inr rest ↦ omega (arith, did_low older a act rest, lane_rises a.lane m x older)
]

-- the first dependence that is outside is of a lane that has records, or of the section's own lane
pub reason_lane : (log : List (ℕ × Action)) (cut : ℕ → ℕ) (a b : Section) → IsReason log cut a b → a.lane < 32 → ((s : Section) (act : Action) → Did log s act → s.lane < 32) → b.lane < 32
reason_lane log cut a b (Previous out same next) low lanes = omega (arith, same)
reason_lane log cut a b (Releaser first older took out inside) low lanes = lanes b (Frees took.object took.number) took.freed

-- it is whole, or the one after those that are
pub reason_low : (log : List (ℕ × Action)) (cut : ℕ → ℕ) (a b : Section) → IsReason log cut a b → a.number ≤ ended (lane a.lane log) → b.number ≤ ended (lane b.lane log) + 1
reason_low log cut a b (Previous out same next) low = omega (arith, next, ap (λ (k : ℕ). ended (lane k log)) same)
reason_low log cut a b (Releaser first older took out inside) low = did_low log b (Frees took.object took.number) took.freed

-- a whole section that isn't left out is in the cut
pub counted : (log : List (ℕ × Action)) (cut : ℕ → ℕ) (a : Section) → a.number ≤ ended (lane a.lane log) → (IsLeftOut log cut a → ⊥) → Counts cut a
counted log cut a whole not_out = elim (cases_lt (cut a.lane) a.number) [
  | inl out ↦ absurd (not_out (record { whole = whole; outside = out }))
  | inr inside ↦ inside
]

-- one entry more
pub entries_more : (trimmed : ℕ → ℕ) (log : List (ℕ × Action)) (cut : ℕ → ℕ) (sections : List Section) (dropped : List Dropped) (a : Section) (d : Dropped) → AreEntriesOf trimmed log cut sections dropped → IsEntryOf trimmed log cut a d →
    AreEntriesOf trimmed log cut (sections ++ a ∷ []) (dropped ++ d ∷ [])
entries_more trimmed log cut [] [] a d h is = (is, tt)
entries_more trimmed log cut [] (e ∷ dropped) a d h is = absurd h
entries_more trimmed log cut (b ∷ sections) [] a d h is = absurd h
entries_more trimmed log cut (b ∷ sections) (e ∷ dropped) a d h is = (h.0, entries_more trimmed log cut sections dropped a d h.1 is)

-- one section more
pub sections_more : (l first before : ℕ) (sections : List Section) → first ≤ before →
    (sections ++ sections_after l first (before - first)) ++ record { lane = l; number = before + 1 } ∷ [] ≡ sections ++ sections_after l first (before + 1 - first)
sections_more l first before sections le =
    let count : before + 1 - first ≡ suc (before - first) = omega arith in
    let number : before + 1 ≡ first + suc (before - first) = omega arith in
    append_assoc sections (sections_after l first (before - first)) (record { lane = l; number = before + 1 } ∷ [])
    ∙ ap (λ (k : ℕ). sections ++ (sections_after l first (before - first) ++ record { lane = l; number = k } ∷ [])) number
    ∙ ap (λ (k : ℕ). sections ++ sections_after l first k) (sym count)
