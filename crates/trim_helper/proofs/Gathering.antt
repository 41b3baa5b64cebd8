-- Each session that has ended meets its lane's ring.
use Rattle.std.proofs.Common.{ℕ, zero, suc, ◌≡◌, ◌≢◌, ◌+◌, ◌<◌, ◌≤◌, ◌⊎◌, ◌==◌, if◌then◌else◌, Option, None, Some, MatchOption, Bool, true, false, List, [], ◌∷◌, ◌++◌, length, slice_index_or, refl, sym, ap, ◌∙◌, subst, inl, inr, ⊎_elim, arith}
use Rattle.std.proofs.lemmas.Bool.Decides.{eqb_tells}
use Rattle.thread_rings.specs.Rings.{IsPair, Receiving, Sending}
use Rattle.heap_model.specs.declared.record.Record.{Record}
use Rattle.heap_model.specs.Own.{own_log, sent_of}
use Rattle.heap_model.specs.Setting.{Setting}
use Rattle.monitor.specs.Seats.{Home}
use Rattle.trim_helper.specs.Rings.{received_of, known_of}
use Rattle.trim_helper.specs.Moves.{IsEndOf, Looks, SameRings}
use Rattle.trim_helper.specs.Limits.{KeepsLimits}
use Rattle.trim_helper.specs.Meeting.{HoldsNothing, HasPart, HaveMet, count_parts}
use Rattle.trim_helper.specs.Serving.{Part, Among}
use Rattle.trim_helper.specs.declared.ended.Ended.{Ended}
use Rattle.trim_helper.specs.Endings.{Rings, IsEnded, AreEnded, HoldNone, HasOpen, IsComplete, IsCloseStop, RefusesEnded, RefusesClosing, count_lane, part_at, parts_of}
use Rattle.trim_helper.specs.declared.close_error.CloseError.{CloseError}
use Rattle.trim_helper.specs.declared.close_error.CloseError.TheVariants.{Missing, Unfinished, Failed, Worn, Fault}
use Rattle.heap_model.specs.declared.ids.Lane.{Lane}

pub end_at : (p : Sending) (cs : List Receiving) (l : ℕ) (d : Receiving) → IsEndOf p cs l → IsPair p (slice_index_or cs l d)
end_at p [] l d is = elim is [ ]
end_at p (c ∷ cs) zero d is = is
end_at p (c ∷ cs) (suc l) d is = end_at p cs l d is

pub end_below : (p : Sending) (cs : List Receiving) (l : ℕ) → IsEndOf p cs l → l < length cs
end_below p [] l is = elim is [ ]
end_below p (c ∷ cs) zero is = omega arith
end_below p (c ∷ cs) (suc l) is = omega (arith, end_below p cs l is)

-- one more has met
pub met_more : (s : Setting) (r0 r1 : List Receiving) (parts : List Part) (capacity : ℕ) (x : Part) → HaveMet s r0 parts capacity → Looks r0 r1 →
    ((l : ℕ) → x.lane ≢ l → known_of r1 l ≡ known_of r0 l) → received_of r1 x.lane ++ known_of r1 x.lane ≡ sent_of s x.events → ((y : Part) → Among parts y → y.lane ≢ x.lane) →
    KeepsLimits x.place capacity (own_log s x.events) → HoldsNothing s x.events → HaveMet s r1 (x ∷ parts) capacity
met_more s r0 r1 parts capacity x met looks others fifo fresh limits free = record {
  whole = λ y among. ⊎_elim
      (λ (t : x ≡ y). subst (λ z. received_of r1 z.lane ++ known_of r1 z.lane ≡ sent_of s z.events) t fifo)
      (λ (t : Among parts y).
      let other : x.lane ≢ y.lane = λ e. fresh y t (sym e) in
      ap (λ (xs : List Record). xs ++ known_of r1 y.lane) (looks.received y.lane) ∙ ap (λ (xs : List Record). received_of r0 y.lane ++ xs) (others y.lane other) ∙ met.whole y t) among;
  limits = λ y among. ⊎_elim (λ (t : x ≡ y). subst (λ z. KeepsLimits z.place capacity (own_log s z.events)) t limits) (λ (t : Among parts y). met.limits y t) among;
  free = λ y among. ⊎_elim (λ (t : x ≡ y). subst (λ z. HoldsNothing s z.events) t free) (λ (t : Among parts y). met.free y t) among;
}

pub met_none : (s : Setting) (r : List Receiving) (capacity : ℕ) → HaveMet s r [] capacity
met_none s r capacity = record { whole = λ y among. elim among [ ]; limits = λ y among. elim among [ ]; free = λ y among. elim among [ ] }

module _ (h : Home) (capacity : ℕ) where
  pub are_same : (r0 r1 : Rings) (es : List Ended) → SameRings r0 r1 → AreEnded h capacity r0 es → AreEnded h capacity r1 es
  are_same r0 r1 [] same are = tt
  are_same r0 r1 (e ∷ es) same are = (
    record { seat = are.0.seat; lane = are.0.lane; all_sent = are.0.all_sent; limits = are.0.limits; held = are.0.held; ring = same.ends e.producer e.lane.0 are.0.ring },
    are_same r0 r1 es same are.1,
  )

  pub are_last : (r : Rings) (es : List Ended) (e : Ended) → AreEnded h capacity r (es ++ e ∷ []) → AreEnded h capacity r es × IsEnded h capacity r e
  are_last r [] e are = (tt, are.0)
  are_last r (x ∷ es) e are = let rest = are_last r es e are.1 in ((are.0, rest.0), rest.1)

pub parts_last : (es : List Ended) (e : Ended) (g : List Part) → parts_of (es ++ e ∷ []) ++ g ≡ parts_of es ++ part_at e.seat ∷ g
parts_last [] e g = refl
parts_last (x ∷ es) e g = ap (λ (xs : List Part). part_at x.seat ∷ xs) (parts_last es e g)

pub none_last : (es : List Ended) (e : Ended) → HoldNone (es ++ e ∷ []) → HoldNone es × (e.held ≡ 0)
none_last [] e none = (tt, none.0)
none_last (x ∷ es) e none = let rest = none_last es e none.1 in ((none.0, rest.0), rest.1)

-- counts

pub count_last : (l : ℕ) (es : List Ended) (e : Ended) → count_lane l (es ++ e ∷ []) ≡ count_lane l es + (if e.lane.0 == l then 1 else 0)
count_last l [] e = elim (e.lane.0 == l) as (λ (b : Bool). (if b then 0 + 1 else 0) ≡ 0 + (if b then 1 else 0)) [ true ↦ refl | false ↦ refl ]
count_last l (x ∷ es) e =
    let rest = count_last l es e in
    elim (x.lane.0 == l) as (λ (b : Bool). (if b then count_lane l (es ++ e ∷ []) + 1 else count_lane l (es ++ e ∷ [])) ≡ (if b then count_lane l es + 1 else count_lane l es) + (if e.lane.0 == l then 1 else 0)) [ true ↦ omega arith | false ↦ omega arith ]

pub count_more : (l : ℕ) (x : Part) (parts : List Part) → count_parts l (x ∷ parts) ≡ count_parts l parts + (if x.lane == l then 1 else 0)
count_more l x parts = elim (x.lane == l) as (λ (b : Bool). (if b then count_parts l parts + 1 else count_parts l parts) ≡ count_parts l parts + (if b then 1 else 0)) [ true ↦ refl | false ↦ omega arith ]

pub among_counts : (parts : List Part) (x : Part) → Among parts x → 0 < count_parts x.lane parts
among_counts [] x among = elim among [ ]
among_counts (y ∷ parts) x (inl same) = let here : y.lane ≡ x.lane = ap (λ (z : Part). z.lane) same in elim (eqb_tells y.lane x.lane) [
  | inl e ↦ subst (λ (b : Bool). 0 < (if b then count_parts x.lane parts + 1 else count_parts x.lane parts)) (sym e.0) (omega arith)
  | inr e ↦ absurd (e.1 here)
]
among_counts (y ∷ parts) x (inr among) =
    let rest = among_counts parts x among in
    elim (y.lane == x.lane) as (λ (b : Bool). 0 < (if b then count_parts x.lane parts + 1 else count_parts x.lane parts)) [ true ↦ omega arith | false ↦ rest ]

pub counts_among : (parts : List Part) (l : ℕ) → 0 < count_parts l parts → HasPart parts l
counts_among [] l some = absurd (omega arith)
counts_among (y ∷ parts) l some = elim (eqb_tells y.lane l) [
  | inl e ↦ (y, inl refl, e.1)
  | inr e ↦ let rest = counts_among parts l (subst (λ (b : Bool). 0 < (if b then count_parts l parts + 1 else count_parts l parts)) e.0 some) in (rest.0, inr rest.1, rest.2)
]

-- a lane that has one session in all, which is met now, wasn't met before
pub unmet : (parts : List Part) (lane left total : ℕ) {old : ℕ} → old ≡ left + (if lane == lane then 1 else 0) → old + count_parts lane parts ≡ total → total ≡ 1 → (y : Part) → Among parts y → y.lane ≢ lane
unmet parts lane left total {old} counted all one y among same =
    let some : 0 < count_parts lane parts = subst (λ k. 0 < count_parts k parts) same (among_counts parts y among) in
    elim (eqb_tells lane lane) [
      | inl e ↦ let now : old ≡ left + 1 = counted ∙ ap (λ (b : Bool). left + (if b then 1 else 0)) e.0 in omega arith
      | inr e ↦ e.1 refl
    ]

pub counts_on : (old left more parts next total : ℕ) → old ≡ left + more → next ≡ parts + more → old + parts ≡ total → left + next ≡ total
counts_on old left more parts next total a b c = omega arith

pub count_empty : (l : ℕ) (es : List Ended) → length es ≡ 0 → count_lane l es ≡ 0
count_empty l [] none = refl
count_empty l (e ∷ es) none = absurd (omega arith)

-- who holds a monitor

pub none_open : (k : ℕ) (es : List Ended) → HoldNone es → HasOpen k es → ⊥
none_open k [] none open_in = elim open_in [ ]
none_open k (e ∷ es) none (inl here) = let held = here.1 in let free = none.0 in omega arith
none_open k (e ∷ es) none (inr later) = none_open k es none.1 later

module _ (e : Ended) (es : List Ended) where
  abbrev Least : List Ended → Lane → Type 0
  Least xs m = HasOpen m.0 xs × ((k : ℕ) → HasOpen k xs → m.0 ≤ k)

  pub open_later : (found : Option Lane) → e.held ≡ 0 → MatchOption found (HoldNone es) (Least es) → MatchOption found (HoldNone (e ∷ es)) (Least (e ∷ es))
  open_later None free was = (free, was)
  open_later (Some m) free was = (inr was.0, λ k h. ⊎_elim (λ (here : (e.lane.0 ≡ k) × (0 < e.held)). let held = here.1 in absurd (omega arith)) (λ (there : HasOpen k es). was.1 k there) h)

  pub open_here : (found : Option Lane) (m : Lane) → 0 < e.held → MatchOption found (HoldNone es) (Least es) → MatchOption found (m ≡ e.lane) (λ lane. ((m ≡ e.lane) × (e.lane.0 ≤ lane.0)) ⊎ ((m ≡ lane) × (lane.0 ≤ e.lane.0))) → Least (e ∷ es) m
  open_here None m held was is =
      let at : e.lane.0 ≡ m.0 = ap (λ (l : Lane). l.0) (sym is) in
      (inl (at, held), λ k h. ⊎_elim (λ (here : (e.lane.0 ≡ k) × (0 < e.held)). let same = here.0 in omega arith) (λ (there : HasOpen k es). absurd (none_open k es was there)) h)
  open_here (Some lane) m held was is = ⊎_elim
      (λ (first : (m ≡ e.lane) × (e.lane.0 ≤ lane.0)).
      let at : e.lane.0 ≡ m.0 = ap (λ (l : Lane). l.0) (sym first.0) in
      (inl (at, held), λ k h. ⊎_elim (λ (here : (e.lane.0 ≡ k) × (0 < e.held)). let same = here.0 in omega arith) (λ (there : HasOpen k es). let low = was.1 k there in let le = first.1 in omega arith) h))
      (λ (later : (m ≡ lane) × (lane.0 ≤ e.lane.0)).
      let at : lane.0 ≡ m.0 = ap (λ (l : Lane). l.0) (sym later.0) in
      (inr (subst (λ k. HasOpen k es) at was.0), λ k h. ⊎_elim (λ (here : (e.lane.0 ≡ k) × (0 < e.held)). let same = here.0 in let le = later.1 in omega arith) (λ (there : HasOpen k es). let low = was.1 k there in omega arith) h))
      is

pub closing_refused : (lanes : ℕ) (es : List Ended) (e : CloseError) → HoldNone es → IsComplete lanes es → IsCloseStop e → RefusesClosing lanes es e
closing_refused lanes es e none complete stop = ⊎_elim
    (λ (is : e ≡ Failed). subst (λ k. RefusesClosing lanes es k) (sym is) (none, complete))
    (λ (more : (e ≡ Worn) ⊎ (e ≡ Fault)). ⊎_elim (λ (is : e ≡ Worn). subst (λ k. RefusesClosing lanes es k) (sym is) (none, complete)) (λ (is : e ≡ Fault). subst (λ k. RefusesClosing lanes es k) (sym is) (none, complete)) more)
    stop

pub ended_refused : (lanes : ℕ) (es : List Ended) (e : CloseError) → RefusesEnded lanes es e → RefusesClosing lanes es e
ended_refused lanes es (Missing l) why = why
ended_refused lanes es (Unfinished l) why = why
ended_refused lanes es Failed why = elim why [ ]
ended_refused lanes es Worn why = elim why [ ]
ended_refused lanes es Fault why = elim why [ ]
