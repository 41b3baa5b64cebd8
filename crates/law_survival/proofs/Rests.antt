-- Where the acknowledged sections of lanes end: nothing is held there, and none of them takes what a later section freed.
use Rattle.std.proofs.Common.{ℕ, ◌≡◌, ◌+◌, ◌-◌, ◌<◌, ◌≤◌, ◌==◌, if◌then◌else◌, false, List, [], ◌∷◌, ◌++◌, length, map, take, reverse, refl, sym, ap, ◌∙◌, subst, inl, inr, arith, length-append}
use Rattle.std.proofs.lemmas.Bool.{cases_lt, lt-ltb}
use Rattle.std.proofs.lemmas.Bool.Decides.{eqb_tells}
use Rattle.std.proofs.lemmas.List.{map-append, take_all, take-append-le, length-reverse, reverse-append, reverse-reverse}
use Rattle.heap_model.specs.declared.record.Record.{Record}
use Rattle.heap_model.specs.declared.record.Record.TheVariants.{Acq, Rel, WaitRel, Put}
use Rattle.heap_model.specs.declared.record.UndoRecord.{UndoRecord}
use Rattle.heap_model.specs.declared.record.UndoRecord.TheVariants as undo
use Rattle.heap_model.specs.Record.{undo_of}
use Rattle.heap_model.specs.Log.{lane}
use Rattle.heap_model.specs.Sections.{Action, Takes, Frees, action, actions, holding, ended, undo_action, Section, Did, Took}
use Rattle.heap_model.specs.Cuts.{Counts, IsWhole, IsClosed}
use Rattle.heap_model.specs.Base.{records_since, records_until}
use Rattle.law_cuts.proofs.Lanes.{lane_actions}
use Rattle.law_cuts.proofs.Stores.{ended_rises}
use Rattle.law_cuts.proofs.Trimmed.{ends_free}
use Rattle.law_histories.proofs.Reorder.{split_lane}
use Rattle.law_histories.proofs.Rebase.{ended_add, until_ends}
use Rattle.undo_log.specs.Dropped.{undo_logs, records_in}
use Rattle.undo_log.proofs.Back.{actions_undo}
use Rattle.store_image.proofs.Places.{records_within, past_sections, ended_undo, base_place, cut_place}
use Rattle.recover.specs.Settled.{first_of, HasAt, TakesUnsettled}
use Rattle.law_survival.proofs.LaneParts.{lane_own, lane_other}

-- the first records of a list that has the newest first
first_all : (xs : List UndoRecord) → first_of (length xs) xs ≡ xs
first_all xs = ap (λ (ys : List UndoRecord). reverse ys) (take_all (length xs) (reverse xs) (omega (arith, length-reverse xs))) ∙ reverse-reverse xs

first_older : (k : ℕ) (r : UndoRecord) (older : List UndoRecord) → k ≤ length older → first_of k (r ∷ older) ≡ first_of k older
first_older k r older le = ap (λ (ys : List UndoRecord). reverse (take k ys)) (reverse-append (r ∷ []) older)
    ∙ ap (λ (ys : List UndoRecord). reverse ys) (take-append-le k (reverse older) (r ∷ []) (omega (arith, le, length-reverse older)))

pub first_none : (k : ℕ) → first_of k [] ≡ []
first_none k = ap (λ (ys : List UndoRecord). reverse ys) (take_all k [] (omega arith))

in_sections : (n : ℕ) (r : UndoRecord) (older : List UndoRecord) → ended (map undo_action older) < n → records_in n (r ∷ older) ≡ length older + 1
in_sections n r older lt = ap (λ b. if b then length older + 1 else records_in n older) (lt-ltb _ _ lt)

-- after the first n sections, where so many have ended, nothing is held
pub record EndsAt (n : ℕ) (xs : List UndoRecord) : Type 0 where
  pub free : holding (map undo_action xs) ≡ []
  pub count : ended (map undo_action xs) ≡ n

pub sections_end : (n : ℕ) (xs : List UndoRecord) → n ≤ ended (map undo_action xs) → EndsAt n (first_of (records_in n xs) xs)
sections_end n [] le = subst (EndsAt n) (sym (first_none (records_in n []))) (record { free = refl; count = omega (arith, le) })
sections_end n (r ∷ older) le = elim (cases_lt (ended (map undo_action older)) n) [
  | inl lt ↦
      let ends : (holding (undo_action r ∷ map undo_action older) ≡ []) × (ended (undo_action r ∷ map undo_action older) ≡ ended (map undo_action older) + 1) = ends_free (undo_action r) (map undo_action older) (omega (arith, le, lt)) in
      let at : records_in n (r ∷ older) ≡ length (r ∷ older) = omega (arith, in_sections n r older lt) in
      subst (EndsAt n) (sym (ap (λ (k : ℕ). first_of k (r ∷ older)) at ∙ first_all (r ∷ older))) (record { free = ends.0; count = omega (arith, ends.1, le, lt) })
  | inr ge ↦ subst (EndsAt n) (sym (ap (λ (k : ℕ). first_of k (r ∷ older)) (past_sections n r older ge) ∙ first_older (records_in n older) r older (records_within n older))) (sections_end n older ge)
]

-- what stands at a place stands further on, behind other records
at_behind : (xs us : List UndoRecord) (i : ℕ) (r : UndoRecord) → HasAt xs i r → HasAt (xs ++ us) (i + length us) r
at_behind [] us i r h = absurd h
at_behind (x ∷ xs) us i r (inl h) = inl (h.0, omega (arith, h.1, length-append xs us))
at_behind (x ∷ xs) us i r (inr h) = inr (at_behind xs us i r h)

pub at_some : (xs : List UndoRecord) (i : ℕ) (r : UndoRecord) → HasAt xs i r → i < length xs
at_some [] i r h = absurd h
at_some (x ∷ xs) i r (inl h) = omega (arith, h.1)
at_some (x ∷ xs) i r (inr h) = omega (arith, at_some xs i r h)

action_undo : (r : Record) → undo_action (undo_of r) ≡ action r
action_undo (Acq o n) = refl
action_undo (Rel o n) = refl
action_undo (WaitRel o n) = refl
action_undo (Put f v w) = refl

-- the section that a lane's record is of, and which places its lane's sections have
record DidAt (log : List (ℕ × Record)) (l i : ℕ) (act : Action) : Type 0 where
  number : ℕ
  did : Did (actions log) (record { lane = l; number = number }) act
  low : number ≤ ended (map undo_action (undo_logs log l)) + 1
  inside : (n : ℕ) → i < records_in n (undo_logs log l) → number ≤ n
  outside : (n : ℕ) → records_in n (undo_logs log l) ≤ i → n < number

-- of the newest record
did_now : (l i : ℕ) (q : Record) (older : List (ℕ × Record)) (r : UndoRecord) → undo_of q ≡ r → i ≡ length (undo_logs older l) → DidAt ((l, q) ∷ older) l i (undo_action r)
did_now l i q older r is at =
    let us : List UndoRecord = undo_logs older l in
    let logs : undo_logs ((l, q) ∷ older) l ≡ undo_of q ∷ us = ap (map undo_of) (lane_own l l q older refl) in
    let more : ended (map undo_action us) ≤ ended (map undo_action (undo_of q ∷ us)) = ended_rises (undo_action (undo_of q)) (map undo_action us) in
    let all : ended (map undo_action (undo_logs ((l, q) ∷ older) l)) ≡ ended (map undo_action (undo_of q ∷ us)) = ap (λ (xs : List UndoRecord). ended (map undo_action xs)) logs in
    record {
      number = ended (lane l (actions older)) + 1;
      did = inl (refl, ap undo_action (sym is) ∙ action_undo q);
      low = omega (arith, more, all, ended_undo older l);
      inside = λ n lt. elim (cases_lt (ended (map undo_action us)) n) [
        | inl less ↦ omega (arith, less, ended_undo older l)
        | inr ge ↦ absurd (omega (arith, lt, at, ap (records_in n) logs, past_sections n (undo_of q) us ge, records_within n us))
      ];
      outside = λ n le. elim (cases_lt (ended (map undo_action us)) n) [
        | inl less ↦ absurd (omega (arith, le, at, ap (records_in n) logs, in_sections n (undo_of q) us less))
        | inr ge ↦ omega (arith, ge, ended_undo older l)
      ];
    }

-- and of an older one
did_older : (l i : ℕ) (q : Record) (older : List (ℕ × Record)) (act : Action) → i < length (undo_logs older l) → DidAt older l i act → DidAt ((l, q) ∷ older) l i act
did_older l i q older act small h =
    let us : List UndoRecord = undo_logs older l in
    let logs : undo_logs ((l, q) ∷ older) l ≡ undo_of q ∷ us = ap (map undo_of) (lane_own l l q older refl) in
    let more : ended (map undo_action us) ≤ ended (map undo_action (undo_of q ∷ us)) = ended_rises (undo_action (undo_of q)) (map undo_action us) in
    let all : ended (map undo_action (undo_logs ((l, q) ∷ older) l)) ≡ ended (map undo_action (undo_of q ∷ us)) = ap (λ (xs : List UndoRecord). ended (map undo_action xs)) logs in
    record {
      number = h.number;
      did = inr h.did;
      low = omega (arith, more, all, h.low);
      inside = λ n lt. elim (cases_lt (ended (map undo_action us)) n) [
        | inl less ↦ omega (arith, less, h.low)
        | inr ge ↦ h.inside n (omega (arith, lt, ap (records_in n) logs, past_sections n (undo_of q) us ge))
      ];
      outside = λ n le. elim (cases_lt (ended (map undo_action us)) n) [
        | inl less ↦ absurd (omega (arith, le, small, ap (records_in n) logs, in_sections n (undo_of q) us less))
        | inr ge ↦ h.outside n (omega (arith, le, ap (records_in n) logs, past_sections n (undo_of q) us ge))
      ];
    }

did_other : (l m i : ℕ) (q : Record) (older : List (ℕ × Record)) (act : Action) → (m == l) ≡ false → DidAt older l i act → DidAt ((m, q) ∷ older) l i act
did_other l m i q older act apart h =
    let logs : undo_logs ((m, q) ∷ older) l ≡ undo_logs older l = ap (map undo_of) (lane_other l m q older apart) in
    record {
      number = h.number;
      did = inr h.did;
      low = omega (arith, h.low, ap (λ (xs : List UndoRecord). ended (map undo_action xs)) logs);
      inside = λ n lt. h.inside n (omega (arith, lt, ap (records_in n) logs));
      outside = λ n le. h.outside n (omega (arith, le, ap (records_in n) logs));
    }

did_at : (log : List (ℕ × Record)) (l i : ℕ) (r : UndoRecord) → HasAt (undo_logs log l) i r → DidAt log l i (undo_action r)
did_at [] l i r h = absurd h
did_at ((m, q) ∷ older) l i r h = elim (eqb_tells m l) [
  | inl e ↦ subst (λ (k : ℕ). DidAt ((k, q) ∷ older) l i (undo_action r)) (sym e.1)
      (elim (subst (λ (xs : List Record). HasAt (map undo_of xs) i r) (lane_own l m q older e.1) h) [
        | inl now ↦ did_now l i q older r now.0 now.1
        | inr then_on ↦ did_older l i q older (undo_action r) (at_some (undo_logs older l) i r then_on) (did_at older l i r then_on)
      ])
  | inr e ↦ did_other l m i q older (undo_action r) e.0 (did_at older l i r (subst (λ (xs : List Record). HasAt (map undo_of xs) i r) (lane_other l m q older e.0) h))
]

module _ (log : List (ℕ × Record)) (base cut : ℕ → ℕ) (base_whole : IsWhole (actions log) base) (whole : IsWhole (actions log) cut) (closed : IsClosed (actions log) cut) (more : (l : ℕ) → base l ≤ cut l) where
  abbrev left : ℕ → List UndoRecord
  left l = undo_logs (records_since base log) l

  abbrev gone : ℕ → List UndoRecord
  gone l = undo_logs (records_until base log) l

  parts : (l : ℕ) → left l ++ gone l ≡ undo_logs log l
  parts l = sym (map-append undo_of (lane l (records_since base log)) (lane l (records_until base log))) ∙ ap (map undo_of) (split_lane base l log)

  actions_gone : (l : ℕ) → map undo_action (gone l) ≡ lane l (actions (records_until base log))
  actions_gone l = actions_undo (lane l (records_until base log)) ∙ sym (lane_actions l (records_until base log))

  -- as many sections ended since as past the base
  ended_left : (l : ℕ) → ended (map undo_action (left l)) + base l ≡ ended (lane l (actions log))
  ended_left l =
      let ends = until_ends base l log (base_whole l) in
      let free : holding (map undo_action (gone l)) ≡ [] = ap holding (actions_gone l) ∙ ends.0 in
      omega (
        arith,
        ended_undo log l,
        ap (λ (xs : List UndoRecord). ended (map undo_action xs)) (parts l),
        ap ended (map-append undo_action (left l) (gone l)),
        ended_add (map undo_action (left l)) (map undo_action (gone l)) free,
        ap ended (actions_gone l),
        ends.1,
      )

  -- behind the acknowledged sections the lane holds nothing
  pub rests : (l : ℕ) → EndsAt (cut l - base l) (first_of (records_in (cut l - base l) (left l)) (left l))
  rests l = sections_end (cut l - base l) (left l) (omega (arith, ended_left l, whole l, more l))

  -- no acknowledged section takes what another freed
  pub inside : (settled : ℕ → ℕ) → ((l i : ℕ) (r : UndoRecord) → HasAt (left l) i r → settled l ≡ records_in (cut l - base l) (left l)) → (l i : ℕ) → TakesUnsettled settled left l i → ⊥
  inside settled places l i h =
      let taker : HasAt (undo_logs log l) (i + length (gone l)) (undo.Acq h.object (h.number + 1)) =
      subst (λ (xs : List UndoRecord). HasAt xs (i + length (gone l)) (undo.Acq h.object (h.number + 1))) (parts l) (at_behind (left l) (gone l) i (undo.Acq h.object (h.number + 1)) h.took) in
      let freer : HasAt (undo_logs log h.lane) (h.place + length (gone h.lane)) h.release =
      subst (λ (xs : List UndoRecord). HasAt xs (h.place + length (gone h.lane)) h.release) (parts h.lane) (at_behind (left h.lane) (gone h.lane) h.place h.release h.had) in
      let a : DidAt log l (i + length (gone l)) (Takes h.object.0 (h.number + 1)) = did_at log l (i + length (gone l)) (undo.Acq h.object (h.number + 1)) taker in
      let b : DidAt log h.lane (h.place + length (gone h.lane)) (Frees h.object.0 h.number) =
      subst (DidAt log h.lane (h.place + length (gone h.lane))) h.freed (did_at log h.lane (h.place + length (gone h.lane)) h.release freer) in
      let counted : a.number ≤ cut l = a.inside (cut l) (omega (arith, h.inside, places l i (undo.Acq h.object (h.number + 1)) h.took, cut_place base l cut log (more l), base_place base l log)) in
      let out : cut h.lane < b.number = b.outside (cut h.lane) (omega (arith, h.outside, places h.lane h.place h.release h.had, cut_place base h.lane cut log (more h.lane), base_place base h.lane log)) in
      let taking : Section = record { lane = l; number = a.number } in
      let freeing : Section = record { lane = h.lane; number = b.number } in
      let apart : taking ≡ freeing → ⊥ = (λ e. let low : Counts cut freeing = subst (λ (x : Section). Counts cut x) e counted in omega (arith, low, out)) in
      let low : Counts cut freeing = closed taking freeing counted (Took h.object.0 h.number a.did b.did apart) in
      omega (arith, low, out)
