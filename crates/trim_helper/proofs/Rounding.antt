-- A round makes durable what was applied, and acknowledges its stable cut.
use Rattle.std.proofs.Common.{ℕ, ◌≡◌, ◌≤◌, List, [], ◌∷◌, map, Result, Ok, Err, OnOk, refl, sym, ap, ◌∙◌, subst, inl, inr, arith}
use Rattle.std.proofs.lemmas.Bool.{cases_lt}
use Rattle.std.proofs.lemmas.List.{append_assoc}
use Rattle.heap_model.specs.declared.record.Record.{Record}
use Rattle.heap_model.specs.declared.record.UndoRecord.{UndoRecord}
use Rattle.heap_model.specs.Setting.{Setting}
use Rattle.heap_model.specs.Sections.{actions, ended, undo_action}
use Rattle.heap_model.specs.Cuts.{IsStable}
use Rattle.block_disk.specs.Device.{Device, HasCause}
use Rattle.block_disk.specs.Images.{LeavesOnly}
use Rattle.block_disk.proofs.Failures.{failed_since}
use Rattle.block_disk.proofs.Images.{begin}
use Rattle.image_parts.specs.declared.layout.Layout.{Layout}
use Rattle.undo_log.specs.Dropped.{undo_logs, records_in}
use Rattle.store_image.proofs.Growing.{places_grown}
use Rattle.store_image.proofs.Places.{in_sections, past_sections, records_within}
use Rattle.heap_model.specs.Past.{Past, IsPast, IsTrimmed, after_log, applied}
use Rattle.heap_model.specs.declared.store_error.StoreError.{StoreError}
use Rattle.heap_model.specs.declared.store_error.StoreError.TheVariants.{Failed, BadLane, BadId, Worn, NotNext, TooLong, LogFull, Unwritten, Fault, Unfinished}
use Rattle.store_helper_sections.specs.Image.{ShowsCutOf}
use Rattle.store_rounds.specs.Runs.{HasRun}
use Rattle.store_rounds.specs.Steps.{MakesRound, RefusesWrite, after_round}
use Rattle.store_rounds.specs.Store as stores
use Rattle.store_rounds.specs.Store.{Known, HasPast}
use Rattle.store_rounds.proofs.Running.{round_runs, run_none, run_on}
use Rattle.trim_helper.specs.Settled.{HasSame, IsSettled, IsStop, RefusesRound, SettlesAndTrims}
use Rattle.trim_helper.specs.Taken.{applied_more}

-- Runs.

-- of the same layout and as many lanes
pub ran_moved : (l m : Layout) (t u : ℕ) (s : Setting) (p q : Past) (d e : Device) → m ≡ l → u ≡ t → HasRun l t s p d q e → HasRun m u s p d q e
ran_moved l m t u s p q d e layout threads ran = subst (λ (k : Layout). HasRun k u s p d q e) (sym layout) (subst (λ (k : ℕ). HasRun l k s p d q e) (sym threads) ran)

-- the device wasn't called
pub still_ran : (l : Layout) (t : ℕ) (s : Setting) (p : Past) (d e : Device) → e ≡ d → HasRun l t s p d p e
still_ran l t s p d e same = subst (λ (f : Device). HasRun l t s p d p f) (sym same) (run_none l t s p d)

-- so many records were applied, and the device wasn't called
pub applied_ran : (l : Layout) (t : ℕ) (s : Setting) (p : Past) (d e : Device) (newer : List (ℕ × Record)) → e ≡ d → HasRun l t s p d (applied_more newer p) e
applied_ran l t s p d e newer same = record {
  newer = newer;
  same = append_assoc newer p.fresh p.logged;
  cut = λ lane. omega arith;
  shown = subst (λ (f : Device). LeavesOnly d f (ShowsCutOf l t s (applied (applied_more newer p)) p.cut)) (sym same) (begin d (ShowsCutOf l t s (applied (applied_more newer p)) p.cut));
}

-- and then other calls were made
pub applied_then : (l : Layout) (t : ℕ) (s : Setting) (p q : Past) (d e f : Device) (newer : List (ℕ × Record)) → e ≡ d → HasRun l t s (applied_more newer p) e q f → HasRun l t s p d q f
applied_then l t s p q d e f newer same on = run_on l t s p (applied_more newer p) q d e f (applied_ran l t s p d e newer same) on

-- more sections have no fewer records
more_records : (n m : ℕ) (xs : List UndoRecord) → n ≤ m → records_in n xs ≤ records_in m xs
more_records n m [] le = omega arith
more_records n m (r ∷ older) le = elim (cases_lt (ended (map undo_action older)) n) [
  | inl low ↦ omega (arith, in_sections n r older low, in_sections m r older (omega arith))
  | inr high ↦ elim (cases_lt (ended (map undo_action older)) m) [
    | inl low ↦ omega (arith, past_sections n r older high, in_sections m r older low, records_within n older)
    | inr past ↦ omega (arith, past_sections n r older high, past_sections m r older past, more_records n m older le)
  ]
]

module _ (y : Known) (d e : Device) (s : Setting) (p : Past) where
  -- the past is as it was
  pub same_stay : HasPast y s p e → HasRun y.layout y.threads s p d p e → HasSame d y e s p
  same_stay has ran = record { now = p; has = has; same = refl; cut = λ l. omega arith; places = λ l. omega arith; ran = ran }

  -- all that was applied is logged
  pub same_logged : IsPast s p → HasPast y s (after_log p) e → HasRun y.layout y.threads s p d (after_log p) e → HasSame d y e s p
  same_logged was has ran = record {
    now = after_log p;
    has = has;
    same = refl;
    cut = λ l. omega arith;
    places = λ l. omega (arith, places_grown (p.base l) p.fresh p.logged l (was.base_whole l));
    ran = ran;
  }

  -- the stable cut was acknowledged and forgotten
  pub acknowledged_now : IsPast s p → (cut : ℕ → ℕ) → IsStable (actions (applied p)) cut → HasPast y s (after_round p cut) e → HasRun y.layout y.threads s p d (after_round p cut) e → (h : HasSame d y e s p) × IsSettled s h.now × IsTrimmed h.now
  acknowledged_now had cut stable has ran = (
    record {
      now = after_round p cut;
      has = has;
      same = refl;
      cut = ran.cut;
      places = λ l. omega (
        arith,
        places_grown (p.base l) p.fresh p.logged l (had.base_whole l),
        more_records (p.base l) (cut l) (undo_logs (applied p) l) (let up = ran.cut l in omega (arith, had.within l, up)),
      );
      ran = ran;
    },
    record { logged = refl; stable = stable },
    λ l. refl,
  )

-- why a round is refused
refuses_round : (x y : Known) (e : StoreError) → RefusesWrite x y e → RefusesRound x y e
refuses_round x y Failed h = (h.0, ap (λ (k : Known). k.has_failed) h.1 ∙ h.0)
refuses_round x y Worn h = h
refuses_round x y Fault h = h
refuses_round x y BadLane h = elim h [ ]
refuses_round x y BadId h = elim h [ ]
refuses_round x y NotNext h = elim h [ ]
refuses_round x y TooLong h = elim h [ ]
refuses_round x y LogFull h = elim h [ ]
refuses_round x y Unwritten h = elim h [ ]
refuses_round x y Unfinished h = elim h [ ]

-- a round's refusal is one of three
pub stops_round : (x y : Known) (e : StoreError) → RefusesRound x y e → IsStop e
stops_round x y Failed h = inl refl
stops_round x y Fault h = inr (inr refl)
stops_round x y Worn h = inr (inl refl)
stops_round x y BadLane h = elim h [ ]
stops_round x y BadId h = elim h [ ]
stops_round x y NotNext h = elim h [ ]
stops_round x y TooLong h = elim h [ ]
stops_round x y LogFull h = elim h [ ]
stops_round x y Unwritten h = elim h [ ]
stops_round x y Unfinished h = elim h [ ]

pub err_same : {S E : Type 0} (r : Result S E) (e f : E) → r ≡ Err e → r ≡ Err f → e ≡ f
err_same r e f one two = let both : Err e ≡ r = sym one in cc

pub passed_on : {T S E : Type 0} (a b c : ℕ) (r : Result T E) (q : Result S E) (fault e : E) → r ≡ Err e → q ≡ Err e → a ≤ b → HasCause b c fault r → HasCause a c fault q
passed_on a b c r q fault e is on le cause = record {
  later = omega (arith, cause.later);
  failed = λ same. let eq : e ≡ fault = err_same q e fault on same in failed_since a b c le (cause.failed (is ∙ ap Err eq));
}

pub ok_weaker : {T E : Type 0} (r : Result T E) (P Q : Type 0) → (P → Q) → OnOk r P → OnOk r Q
ok_weaker (Ok t) P Q f h = f h
ok_weaker (Err e) P Q f h = tt

module _ {D : Type 0} (device : D → Device) (x y : stores.Parts D) (s : Setting) (p : Past) (has : HasPast x.known s p (device x.disk)) where
  -- a round makes durable what was applied, acknowledges its stable cut and forgets it, or it is refused
  pub round_settles : (result : Result (Unit {0}) StoreError) → MakesRound device x y result → (cut : ℕ → ℕ) × IsStable (actions (applied p)) cut → SettlesAndTrims s p x.known (device x.disk) y.known (device y.disk) result
  round_settles (Ok done) makes stable =
      let to = (round_runs device x y (Ok done) makes).runs s p has stable.0 stable.1 in
      let ran = ran_moved x.known.layout y.known.layout x.known.threads y.known.threads s p (after_round p stable.0) (device x.disk) (device y.disk) makes.writes.layout makes.writes.threads to.ran in
      let all = acknowledged_now y.known (device x.disk) (device y.disk) s p has.past stable.0 stable.1 to.is ran in
      record {
        settles = record { same = all.0; settled = all.1; failed = λ off. (makes.writes.still off).0; refused = tt };
        trimmed = all.2;
      }
  round_settles (Err e) makes stable = record {
    settles = record {
      same = elim ((round_runs device x y (Err e) makes).runs s p has) [
        | inl to ↦ same_stay y.known (device x.disk) (device y.disk) s p to.is
            (ran_moved x.known.layout y.known.layout x.known.threads y.known.threads s p p (device x.disk) (device y.disk) makes.writes.layout makes.writes.threads to.ran)
        | inr to ↦ same_logged y.known (device x.disk) (device y.disk) s p has.past to.is
            (ran_moved x.known.layout y.known.layout x.known.threads y.known.threads s p (after_log p) (device x.disk) (device y.disk) makes.writes.layout makes.writes.threads to.ran)
      ];
      settled = tt;
      failed = λ off. (makes.writes.still off).0;
      refused = refuses_round x.known y.known e makes.writes.refused;
    };
    trimmed = tt;
  }
