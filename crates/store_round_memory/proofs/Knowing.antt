-- What is kept in memory stays that of the past.
use Rattle.std.proofs.Common.{ℕ, ◌≡◌, ◌+◌, ◌-◌, ◌*◌, ◌<◌, ◌≤◌, Bool, true, false, List, [], ◌∷◌, ◌++◌, get_or, length, slice_index, Option, Some, None, sym, ap, ◌∙◌, subst, inl, inr, arith, length-append}
use Rattle.std.specs.Prelude.{All, Contains}
use Rattle.std.proofs.lemmas.Bool.{cases_Bool}
use Rattle.heap_model.specs.declared.record.LaneRecord.{LaneRecord}
use Rattle.heap_model.specs.declared.record.Record.{Record}
use Rattle.heap_model.specs.Base.{records_since, records_until}
use Rattle.heap_model.specs.Log.{IsLegal, IsOfLanes, lane, log_from}
use Rattle.heap_model.specs.Setting.{Setting}
use Rattle.law_histories.proofs.Rebase.{kept_since}
use Rattle.undo_log.specs.Dropped.{records_in, undo_logs}
use Rattle.undo_log.proofs.Back.{length_undo}
use Rattle.heap_model.specs.Past.{Past, after_log, after_settle, after_trim, applied, has_store}
use Rattle.store_image.proofs.Growing.{kept_grown, places_grown, since_grown}
use Rattle.store_image.proofs.Places.{live_size, records_within}
use Rattle.store_helper_sections.specs.Image.{kept_by}
use Rattle.store_round_image.specs.Turning.{fields_of}
use Rattle.store_round_image.specs.declared.cells.HomeValue.{HomeValue}
use Rattle.store_round_memory.specs.Counting.{Counts, kept_store, kept_takes, records_left, taken_after, takes}
use Rattle.store_round_memory.specs.Rounds.{Changes, HasFound, KnowsRounds, MayKeep, MayLog, Rounds}
use Rattle.store_round_memory.specs.Surveys.{FitsLane, IsSurvey, TellsDownTo, is_marked}
use Rattle.store_round_memory.specs.declared.survey.Survey.{Survey}
use Rattle.store_round_memory.proofs.Cuts.{Agree, agree, ahead, counts_ahead, is_one, left_is, or_else, since_since, since_store, store_is, stored_field, until_since, until_store, value_is}
use Rattle.store_round_memory.proofs.Finding.{count_within}
use Rattle.store_round_memory.proofs.Fitting.{EachFits, all_within, fits_append, from_log, legal_fits, of_lanes, since_lanes, to_log}
use Rattle.store_round_memory.proofs.Lists.{log_append, log_long}
use Rattle.store_round_memory.proofs.Takes.{first_is, taken_next, takes_parts}
use Rattle.store_round_memory.proofs.Writing.{Once, field_found}

-- what was applied is logged
module _ (s : Setting) (m : Rounds) (p : Past) (fresh : List LaneRecord) (may : MayLog s m p) (is : log_from fresh ≡ p.fresh) where
  pub beyond_more : log_from (m.beyond ++ fresh) ≡ records_since p.cut (applied p)
  beyond_more = log_append m.beyond fresh ∙ (λ i. is i ++ may.knows.beyond i) ∙ sym (since_grown p.cut p.fresh p.logged may.whole)

  pub knows_more : (after : Rounds) → after.kept ≡ m.kept → length after.first ≡ length m.first → after.lanes ≡ m.lanes → after.starts ≡ m.starts → after.beyond ≡ m.beyond ++ fresh →
      ((o : ℕ) → slice_index after.taken o ≡ takes o (applied p)) → KnowsRounds s after (after_log p)
  knows_more after kept first lanes starts beyond taken = record {
    fields = ap (λ (xs : List ℕ). length xs) kept ∙ may.knows.fields;
    objects = first ∙ may.knows.objects;
    kept = λ f lt. ap (λ (xs : List ℕ). slice_index xs f) kept ∙ may.knows.kept f lt ∙ kept_grown s p.fresh p.logged p.cut f may.legal may.whole;
    beyond = ap log_from beyond ∙ beyond_more;
    starts = λ l lt. ap (λ (xs : List ℕ). slice_index xs l) starts ∙ may.knows.starts l (subst (λ (n : ℕ). l < n) lanes lt) ∙ sym (places_grown (p.cut l) p.fresh p.logged l (may.whole l));
    taken = taken;
  }

  -- the record's number is the next one
  pub taken_more : (e : LaneRecord) → fresh ≡ e ∷ [] → (o taken : ℕ) → taken ≡ slice_index m.taken o → taken_after o e.«record» taken ≡ takes o (applied p)
  taken_more e one o taken was =
      let log : applied p ≡ (e.lane.0, e.«record») ∷ p.logged = ap (λ (xs : List (ℕ × Record)). xs ++ p.logged) (sym is ∙ ap log_from one) in
      taken_next s p.logged e.lane.0 e.«record» o taken (subst (IsLegal s) log may.legal) (was ∙ may.knows.taken o) ∙ ap (takes o) (sym log)

  -- each lane has at most so many beyond the cut
  lane_room : (l : ℕ) → l < m.lanes → length (lane l (records_since p.cut (applied p))) ≤ m.capacity
  lane_room l lt = omega (
    arith,
    live_size p.cut l (applied p),
    length_undo (lane l (records_since p.cut (applied p))),
    length_undo (lane l (applied p)),
    places_grown (p.cut l) p.fresh p.logged l (may.whole l),
    may.room l lt,
  )

  pub room_more : length m.beyond + length fresh ≤ m.lanes * m.capacity
  room_more = omega (
    arith,
    all_within m.lanes m.capacity (records_since p.cut (applied p)) (since_lanes m.lanes p.cut (applied p) may.lanes) lane_room,
    ap (λ (xs : List (ℕ × Record)). length xs) beyond_more,
    log_long (m.beyond ++ fresh),
    length-append m.beyond fresh,
  )

  fits_more : All (FitsLane m.lanes s.objects s.fields) m.beyond → All (FitsLane m.lanes s.objects s.fields) (m.beyond ++ fresh)
  fits_more fits = from_log m.lanes s.objects s.fields (m.beyond ++ fresh) (subst (EachFits m.lanes s.objects s.fields) (sym (log_append m.beyond fresh))
      (fits_append m.lanes s.objects s.fields (log_from fresh) (log_from m.beyond)
      (subst (EachFits m.lanes s.objects s.fields) (sym is) (legal_fits s m.lanes p.fresh p.logged may.last may.legal may.lanes))
      (to_log m.lanes s.objects s.fields m.beyond fits)))

  -- each record fits that did, and each new one
  pub fits_grown : All (FitsLane m.lanes (length m.first) (length m.kept)) m.beyond → All (FitsLane m.lanes (length m.first) (length m.kept)) (m.beyond ++ fresh)
  fits_grown fits =
      let named : All (FitsLane m.lanes s.objects s.fields) m.beyond = subst (λ (n : ℕ). All (FitsLane m.lanes s.objects n) m.beyond) may.knows.fields (subst (λ (n : ℕ). All (FitsLane m.lanes n (length m.kept)) m.beyond) may.knows.objects fits) in
      subst (λ (n : ℕ). All (FitsLane m.lanes n (length m.kept)) (m.beyond ++ fresh)) (sym may.knows.objects)
      (subst (λ (n : ℕ). All (FitsLane m.lanes s.objects n) (m.beyond ++ fresh)) (sym may.knows.fields) (fits_more named))

-- a survey of the records beyond the cut, by how many of each lane the next cut keeps
module _ (s : Setting) (m : Rounds) (p : Past) (next : ℕ → ℕ) (places raw counts many : List ℕ) (may : MayKeep s m p next places) (objects fields : ℕ) (low : m.lanes ≤ 32)
    (fits : All (FitsLane m.lanes objects fields) m.beyond) (between : (l : ℕ) → l < 32 → slice_index raw l ≡ slice_index places l - slice_index m.starts l)
    (counted : Counts many (log_from m.beyond)) (within : (l : ℕ) → l < 32 → slice_index raw l ≤ slice_index many l → slice_index counts l ≡ slice_index raw l) where
  abbrev xs : List (ℕ × Record)
  xs = records_since p.cut p.logged

  abbrev cut : ℕ → ℕ
  cut = ahead p.cut next may.more

  counts_are : (l : ℕ) → l < m.lanes → slice_index counts l ≡ records_in (cut l) (undo_logs xs l)
  counts_are l lt =
      let under : l < 32 = omega (arith, lt, low) in
      let is : slice_index raw l ≡ records_in (cut l) (undo_logs xs l) = counts_ahead p.cut next p.logged l (slice_index m.starts l) (slice_index places l) (slice_index raw l) (may.more l) (may.knows.starts l lt) (may.behind l lt) (between l under) in
      let long : length (lane l (log_from m.beyond)) ≡ length (lane l xs) = ap (λ (ys : List (ℕ × Record)). length (lane l ys)) may.knows.beyond in
      within l under (omega (arith, is, records_within (cut l) (undo_logs xs l), length_undo (lane l xs), counted l under, long)) ∙ is

  agrees : Agree counts cut xs
  agrees = agree counts cut m.lanes xs counts_are (subst (IsOfLanes m.lanes) may.knows.beyond (of_lanes m.lanes objects fields (log_from m.beyond) (to_log m.lanes objects fields m.beyond fits)))

  -- what is left is beyond the next cut
  pub left_beyond : records_left counts (log_from m.beyond) ≡ records_since next p.logged
  left_beyond = ap (records_left counts) may.knows.beyond ∙ left_is counts cut xs agrees ∙ since_since p.cut next may.more p.logged

  value_next : (f : ℕ) → kept_by s p.logged next f ≡ or_else (kept_store counts f xs) (kept_by s p.logged p.cut f)
  value_next f = kept_since s p.cut next p.logged may.legal may.was_whole may.was_closed may.more f ∙ value_is (λ g. kept_by s p.logged p.cut g) counts cut f xs agrees

  module _ (v : Survey) (survey : IsSurvey objects fields v) (tells : TellsDownTo counts (log_from m.beyond) [] v) where
    abbrev over : TellsDownTo counts xs [] v
    over = subst (λ (ys : List (ℕ × Record)). TellsDownTo counts ys [] v) may.knows.beyond tells

    change : (c : HomeValue) → kept_store counts c.field.0 xs ≡ Some c.value → Changes s p next c
    change c is =
        let newly : has_store c.field.0 (records_until cut xs) ≡ true = store_is counts cut c.field.0 xs agrees ∙ ap is_one is in
        let kept : has_store c.field.0 (records_until next p.logged) ≡ true = until_since p.cut next may.more c.field.0 p.logged newly in
        let named = stored_field s c.field.0 p.logged may.legal (until_store next c.field.0 p.logged kept) in
        record {
          field = named.0;
          logged = named.1;
          value = sym (value_next c.field.0 ∙ ap (λ (w : Option ℕ). or_else w (kept_by s p.logged p.cut c.field.0)) is);
          kept = kept;
          live = until_store cut c.field.0 xs newly;
        }

    -- of a field that isn't marked no store is kept
    none_kept : (f : ℕ) → is_marked v.marks.items f ≡ false → kept_store counts f xs ≡ None
    none_kept f out = over.rest f out

    none_newly : (f : ℕ) → is_marked v.marks.items f ≡ false → has_store f (records_until cut xs) ≡ false
    none_newly f out = store_is counts cut f xs agrees ∙ ap is_one (none_kept f out)

    some_newly : (f : ℕ) → is_marked v.marks.items f ≡ true → has_store f (records_until cut xs) ≡ true
    some_newly f is =
        let d : HomeValue = record { field = record { 0 = 0 }; value = 0 } in
        let at = field_found v.changed.items f d ((survey.marked.listed f).1 is) in
        subst (λ (g : ℕ). has_store g (records_until cut xs) ≡ true) at.2 (store_is counts cut (get_or v.changed.items at.0 d).field.0 xs agrees ∙ ap is_one (over.values at.0 d at.1))

    -- as many takes are open as there are beyond the next cut
    open_is : (o : ℕ) → slice_index v.open_takes.items o ≡ takes o (records_since next p.logged)
    open_is o =
        let parts : kept_takes counts o (log_from m.beyond) + takes o (records_left counts (log_from m.beyond)) ≡ takes o (log_from m.beyond) = takes_parts counts o (log_from m.beyond) in
        let some : slice_index v.open_takes.items o + kept_takes counts o (log_from m.beyond) ≡ takes o (log_from m.beyond) + 0 = tells.opened o in
        let left : slice_index v.open_takes.items o ≡ takes o (records_left counts (log_from m.beyond)) = omega (arith, parts, some) in
        left ∙ ap (takes o) left_beyond

    pub has_found : (after : Rounds) → fields ≡ s.fields → after.changed ≡ v.changed.items → after.marks ≡ v.marks.items → after.first ≡ v.first.items → v.taken.items ≡ m.taken →
        after.counted ≡ counts → after.beyond ≡ m.beyond → HasFound s after p next
    has_found after size changed marks first taken counted same = record {
      once = subst Once (sym changed) survey.marked.once;
      few = omega (arith, ap (λ (cs : List HomeValue). length cs) changed, survey.marked.many, count_within v.marks.items, survey.marks, size);
      each = subst (All (Changes s p next)) (sym changed) (λ k d lt. change (get_or v.changed.items k d) (over.values k d lt));
      listed = λ f. (
        (λ has. ap (λ (ms : List Bool). is_marked ms f) marks ∙ (survey.marked.listed f).0 (subst (λ (cs : List HomeValue). Contains (fields_of cs) f) changed has)),
        (λ is. subst (λ (cs : List HomeValue). Contains (fields_of cs) f) (sym changed) ((survey.marked.listed f).1 (sym (ap (λ (ms : List Bool). is_marked ms f) marks) ∙ is))),
      );
      marks = λ f. ap (λ (ms : List Bool). is_marked ms f) marks ∙ elim (cases_Bool (is_marked v.marks.items f)) [
        | inl is ↦ is ∙ sym (some_newly f is)
        | inr out ↦ out ∙ sym (none_newly f out)
      ];
      stays = λ f lt out. value_next f ∙ ap (λ (w : Option ℕ). or_else w (kept_by s p.logged p.cut f)) (none_kept f (sym (ap (λ (ms : List Bool). is_marked ms f) marks) ∙ out));
      left = λ f out is. ap (has_store f) (sym (since_since p.cut next may.more p.logged)) ∙ since_store cut f xs (none_newly f (sym (ap (λ (ms : List Bool). is_marked ms f) marks) ∙ out)) is;
      first = λ o. ap (λ (ns : List ℕ). slice_index ns o) first ∙ survey.firsts o
          ∙ first_is s p.logged next may.legal may.whole may.closed o (slice_index v.taken.items o) (slice_index v.open_takes.items o) (ap (λ (ns : List ℕ). slice_index ns o) taken ∙ may.knows.taken o) (open_is o);
      beyond = (λ i. records_left (counted i) (log_from (same i))) ∙ left_beyond;
    }

-- the next cut is acknowledged
module _ (s : Setting) (m : Rounds) (p : Past) (next : ℕ → ℕ) (places : List ℕ) (may : MayKeep s m p next places) (found : HasFound s m p next) (heap : List ℕ) (size : length heap ≡ length m.kept)
    (written : Once m.changed → All (λ c. slice_index heap c.field.0 ≡ c.value) m.changed) (others : (f : ℕ) → (Contains (fields_of m.changed) f → ⊥) → slice_index heap f ≡ slice_index m.kept f) where
  value_written : (f : ℕ) → f < s.fields → slice_index heap f ≡ kept_by s p.logged next f
  value_written f lt = elim (cases_Bool (is_marked m.marks f)) [
    | inl is ↦
        let d : HomeValue = record { field = record { 0 = 0 }; value = 0 } in
        let at = field_found m.changed f d ((found.listed f).1 is) in
        subst (λ (g : ℕ). slice_index heap g ≡ kept_by s p.logged next g) at.2 (written found.once at.0 d at.1 ∙ (found.each at.0 d at.1).value)
    | inr out ↦ others f (λ has. let both : true ≡ false = sym ((found.listed f).0 has) ∙ out in absurd cc) ∙ may.knows.kept f lt ∙ sym (found.stays f lt out)
  ]

  pub knows_next : (after : Rounds) → after.kept ≡ heap → after.first ≡ m.first → after.lanes ≡ m.lanes → after.starts ≡ places → log_from after.beyond ≡ records_since next p.logged → after.taken ≡ m.taken →
      KnowsRounds s after (after_trim (after_settle p next))
  knows_next after kept first lanes starts beyond taken = record {
    fields = ap (λ (xs : List ℕ). length xs) kept ∙ size ∙ may.knows.fields;
    objects = ap (λ (xs : List ℕ). length xs) first ∙ may.knows.objects;
    kept = λ f lt. ap (λ (xs : List ℕ). slice_index xs f) kept ∙ value_written f lt;
    beyond = beyond;
    starts = λ l lt. ap (λ (xs : List ℕ). slice_index xs l) starts ∙ may.behind l (subst (λ (n : ℕ). l < n) lanes lt);
    taken = λ o. ap (λ (ns : List ℕ). slice_index ns o) taken ∙ may.knows.taken o;
  }
