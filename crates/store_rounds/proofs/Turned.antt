-- The three turns that a round may make: what each needs, and what the store has then.
use Rattle.std.proofs.Common.{ℕ, suc, ◌≡◌, ◌+◌, ◌<◌, ◌≤◌, ◌⊎◌, if◌then◌else◌, Bool, true, false, List, [], ◌++◌, length, map, Option, Some, None, refl, sym, ap, ◌∙◌, subst, inl, inr, arith}
use Rattle.std.specs.Prelude.{All, Contains, slice_index, ◌↔◌}
use Rattle.std.specs.List.Sorted.{IsPermutation}
use Rattle.std.proofs.lemmas.Bool.{cases_lt, lt-ltb}
use Rattle.std.proofs.lemmas.List.{get_or_past}
use Rattle.std.proofs.lemmas.List.Sorted.{All-permutation, IsPermutation-sym}
use Rattle.heap_model.specs.declared.cut.Cut.{Cut}
use Rattle.heap_model.specs.declared.ids.ObjectId.{ObjectId}
use Rattle.heap_model.specs.declared.record.Record.{Record}
use Rattle.heap_model.specs.declared.record.UndoRecord.{UndoRecord}
use Rattle.heap_model.specs.Base.{records_since}
use Rattle.heap_model.specs.Cuts.{IsClosed, IsStable, IsWhole, counts_of}
use Rattle.heap_model.specs.Log.{log_from}
use Rattle.heap_model.specs.Sections.{action, actions, ended}
use Rattle.law_cuts.proofs.Existence.{stable_once}
use Rattle.law_cuts.proofs.Lanes.{lane_actions}
use Rattle.law_histories.proofs.OfLanes.{none_past}
use Rattle.block_disk.proofs.Images.{image_now}
use Rattle.image_parts.specs.Control.{AreRows}
use Rattle.image_parts.specs.declared.lane_row.LaneRow.{LaneRow}
use Rattle.store_image.proofs.Rows.{rest_is}
use Rattle.heap_model.specs.Setting.{Setting}
use Rattle.block_disk.specs.Device.{Device}
use Rattle.image_parts.specs.Cells.{HasCell}
use Rattle.image_parts.specs.declared.layout.Layout.{Layout}
use Rattle.undo_log.specs.Area.{IsLoggable}
use Rattle.undo_log.specs.Dropped.{records_in, undo_logs}
use Rattle.undo_log.specs.StandsFor.{row_of}
use Rattle.heap_model.specs.Past.{Past, after_log, applied, has_store}
use Rattle.store_image.proofs.Growing.{places_grown}
use Rattle.store_memory.specs.Fresh.{undo_log_of}
use Rattle.store_memory.specs.Limits.{AreWithin, FitWords}
use Rattle.store_memory.specs.Memory.{Memory}
use Rattle.store_helper_sections.specs.HelperSections.{HelperSection, first_taken, helper_log}
use Rattle.store_helper_sections.specs.Image.{kept_by, round_records}
use Rattle.store_round_image.specs.Turning.{IsValueIn, fields_of}
use Rattle.store_round_image.specs.declared.cells.HomeValue.{HomeValue}
use Rattle.store_round_making.specs.Rounds.{MayMake}
use Rattle.store_round_memory.specs.Counting.{one_more}
use Rattle.store_round_memory.specs.Rounds.{Changes, HasFound}
use Rattle.store_round_memory.specs.Surveys.{is_marked}
use Rattle.store_round_sections.specs.Adding.{AddsLoggable, AddsSections, AreAdded, AreChanges, section_undo}
use Rattle.store_round_sections.specs.Sections.{HasNumber, needed_of, no_object, sections_of, told}
use Rattle.store_rounds.specs.Cells.{settled_values}
use Rattle.store_rounds.specs.Store.{HasPast, IsRunning, Known}
use Rattle.store_rounds.specs.Turns.{IsHelped, IsJoined, IsPlan, threads_fresh}
use Rattle.store_rounds.proofs.Afterwards.{found, more, behind, stable, tells_now}
use Rattle.store_rounds.proofs.Fields.{listed_has, listed_moved, marked_or_not, none_listed, settled_all, settled_listed, settled_unmarked, settled_was, store_left, store_right}
use Rattle.store_rounds.proofs.Premises.{closed_still, kept_still, may_make, of_lanes, none_fits, some_fits, stays_home, whole_still}

-- a word tells the number that it was made of
told_one_more : (v : Option ℕ) → told (one_more v) ≡ v
told_one_more None = refl
told_one_more (Some n) = told_next n
  where
    told_next : (n : ℕ) → told (n + 1) ≡ Some n
    told_next n = let next : suc n ≡ n + 1 = omega arith in subst (λ (k : ℕ). told k ≡ Some n) next refl

-- the lanes of the threads have their records
pub fresh_is : (t : ℕ) (m : Memory) (k : ℕ) → k < t → threads_fresh t m k ≡ undo_log_of k m.fresh
fresh_is t m k low = ap (λ (b : Bool). if b then undo_log_of k m.fresh else []) (lt-ltb k t low)

-- how many records were added to none
pub helper_size : (records helper : List UndoRecord) (len before count : ℕ) (given guards : List ObjectId) (cells taken : List HomeValue) → helper ≡ records → len ≡ length records → len ≡ before + count → before ≡ 0 → count ≡ needed_of given cells → given ≡ guards → cells ≡ taken →
    length helper ≡ needed_of guards taken
helper_size records helper len before count given guards cells taken same is more none are one two =
    let size : length helper ≡ needed_of given cells = omega (arith, ap (λ (xs : List UndoRecord). length xs) same, is, more, none, are) in
    size ∙ ap (λ (gs : List ObjectId). needed_of gs cells) one ∙ ap (λ (cs : List HomeValue). needed_of guards cs) two

-- what was told of equal lists
pub joined_as : (l : Layout) (t : ℕ) (row : LaneRow) (given guards : List ObjectId) (changed found cells taken : List HomeValue) → given ≡ guards → changed ≡ found → taken ≡ cells → IsJoined l t row given changed cells → IsJoined l t row guards found taken
joined_as l t row given guards changed found cells taken one two three is =
    subst (λ (gs : List ObjectId). IsJoined l t row gs found taken) one (subst (λ (cs : List HomeValue). IsJoined l t row given cs taken) two (subst (λ (ps : List HomeValue). IsJoined l t row given changed ps) (sym three) is))

pub adds_as : (given guards : List ObjectId) (told first : List ℕ) (cells taken : List HomeValue) (old records helper : List UndoRecord) → given ≡ guards → told ≡ first → cells ≡ taken → helper ≡ records → AddsSections given told cells old records → AddsSections guards first taken old helper
adds_as given guards told first cells taken old records helper one two three four is =
    subst (λ (gs : List ObjectId). AddsSections gs first taken old helper) one (subst (λ (fs : List ℕ). AddsSections given fs taken old helper) two
    (subst (λ (ps : List HomeValue). AddsSections given told ps old helper) three (subst (λ (rs : List UndoRecord). AddsSections given told cells old rs) (sym four) is)))

pub loggable_as : (given guards : List ObjectId) (told first : List ℕ) (cells taken : List HomeValue) → given ≡ guards → told ≡ first → cells ≡ taken → AddsLoggable given told cells → AddsLoggable guards first taken
loggable_as given guards told first cells taken one two three is =
    subst (λ (gs : List ObjectId). AddsLoggable gs first taken) one (subst (λ (fs : List ℕ). AddsLoggable given fs taken) two (subst (λ (ps : List HomeValue). AddsLoggable given told ps) three is))

pub numbers_as : (given guards : List ObjectId) (told first : List ℕ) (cells taken : List HomeValue) → given ≡ guards → told ≡ first → cells ≡ taken → All (HasNumber guards first) taken → All (HasNumber given told) cells
numbers_as given guards told first cells taken one two three is =
    subst (λ (gs : List ObjectId). All (HasNumber gs told) cells) (sym one) (subst (λ (fs : List ℕ). All (HasNumber guards fs) cells) (sym two) (subst (λ (ps : List HomeValue). All (HasNumber guards first) ps) (sym three) is))

module _ (x : Known) (s : Setting) (p : Past) (d : Device) (has : HasPast x s p d) (run : IsRunning x s p d) (within : AreWithin x.memory) (words : FitWords (log_from x.memory.fresh)) where
  abbrev l : Layout
  l = x.layout

  abbrev t : ℕ
  t = x.threads

  abbrev all : List (ℕ × Record)
  all = applied p

  abbrev fresh : ℕ → List UndoRecord
  fresh = threads_fresh x.threads x.memory

  -- the rows have the acknowledged cut, also of lanes that the threads don't have
  rows_fit : AreRows l x.committed.rows
  rows_fit = (run.on.heap.steady.shows d.now.bytes (image_now d)).spells.valid.rows

  uncounted : (k : ℕ) → t ≤ k → p.cut k ≡ 0
  uncounted k past = omega (arith, has.past.whole k, ap ended (lane_actions k p.logged ∙ ap (map action) (none_past t k p.logged run.on.round.lanes past)))

  cut_at : (next : Cut) → length next.counts ≡ 32 → ((k : ℕ) → k < 32 → counts_of next k ≡ (row_of x.committed.rows k).kept) → (k : ℕ) → counts_of next k ≡ p.cut k
  cut_at next size kept k = elim (cases_lt k l.lanes) [
    | inl low ↦ kept k (omega (arith, low, has.layout.limits.lanes.1)) ∙ run.on.tells.kept k low
    | inr from ↦
        let none : p.cut k ≡ 0 = uncounted k (omega (arith, from, has.layout.within)) in
        elim (cases_lt k 32) [
          | inl lt ↦ kept k lt ∙ ap (λ (r : LaneRow). r.kept) (rest_is l x.committed.rows rows_fit k from) ∙ sym none
          | inr past ↦ get_or_past next.counts k 0 (omega (arith, past, size)) ∙ sym none
        ]
  ]

  pub cut_is : (next : Cut) → length next.counts ≡ 32 → ((k : ℕ) → k < 32 → counts_of next k ≡ (row_of x.committed.rows k).kept) → counts_of next ≡ p.cut
  cut_is next size kept = λ i k. cut_at next size kept k i

  pub starts_are : (places : List ℕ) → ((k : ℕ) → k < 32 → slice_index places k ≡ (row_of x.committed.rows k).start) → (k : ℕ) → k < t → slice_index places k ≡ (row_of x.committed.rows k).start
  starts_are places are k low = are k (omega (arith, low, has.layout.within, has.layout.limits.lanes.1))

  -- a value that waits is kept still
  waits_still : (c : HomeValue) → IsValueIn l (kept_by s p.logged p.cut) c → IsValueIn l (kept_by s all p.cut) c
  waits_still c is = record { field = is.field; value = is.value ∙ sym (kept_still x s p d has c.field.0) }

  -- no record beyond the cut is given up by the same cut
  module _ (next : Cut) (places : List ℕ) (is : counts_of next ≡ p.cut) (places_are : (k : ℕ) → k < t → slice_index places k ≡ (row_of x.committed.rows k).start) where
    may_log_own : MayMake l t s p.logged p.cut run.helped p.fresh [] x.committed d next places x.pending fresh []
    may_log_own = may_make x s p d has run within words fresh (fresh_is t x.memory) next places x.pending [] []
        (subst (IsWhole (actions all)) (sym is) (whole_still x s p d has))
        (subst (IsClosed (actions all)) (sym is) (closed_still x s p d has))
        (λ k. omega (arith, ap (λ (cut : ℕ → ℕ). cut k) is))
        (λ k low. places_are k low ∙ run.on.tells.start k low ∙ sym (places_grown (p.cut k) p.fresh p.logged k (has.past.whole k)) ∙ ap (λ (cut : ℕ → ℕ). records_in (cut k) (undo_logs all k)) (sym is))
        (inl refl) tt refl (none_fits x s p d has run)
        (subst (λ (cut : ℕ → ℕ). All (IsValueIn l (kept_by s all cut)) x.pending) (sym is) (λ k c lt. waits_still _ (run.values k c lt)))
        (λ f listed. store_right f (records_since p.cut p.logged) (helper_log t (kept_by s p.logged p.cut) run.helped) (run.covered f listed))
        (λ f low logged. subst (λ (cut : ℕ → ℕ). (has_store f (round_records t s all cut []) ≡ true) ⊎ Contains (fields_of x.pending) f ⊎ HasCell l f d.now.bytes (kept_by s all cut f)) (sym is)
        (stays_home x s p d has run p.cut [] f low logged refl (λ h. h)))

    -- the turn that logs what was applied, and brings home what waits
    pub may_log : (cells : List HomeValue) → cells ≡ x.pending → MayMake l t s p.logged p.cut run.helped p.fresh [] x.committed d next places cells fresh []
    may_log cells are = subst (λ (xs : List HomeValue). MayMake l t s p.logged p.cut run.helped p.fresh [] x.committed d next places xs fresh []) (sym are) may_log_own

  module _ (next : Cut) (places : List ℕ) (plan : IsPlan x.sections x.rounds next places) where
    abbrev cut : ℕ → ℕ
    cut = counts_of next

    is_stable : IsStable (actions all) cut
    is_stable = stable t s p x.memory x.sections x.rounds next places (tells_now x s p d has) plan

    finds : HasFound s x.rounds (after_log p) cut
    finds = found t s p x.memory x.sections x.rounds next places (tells_now x s p d has) plan

    later_cut : (k : ℕ) → p.cut k ≤ cut k
    later_cut = more t s p x.memory x.sections x.rounds next places (tells_now x s p d has) plan

    is_behind : (k : ℕ) → k < t → slice_index places k ≡ records_in (cut k) (undo_logs all k)
    is_behind k low = behind t s p x.memory x.sections x.rounds next places (tells_now x s p d has) plan k

    -- a field that isn't found stays as it is
    unfound_home : (later : List HelperSection) (f : ℕ) → f < l.fields → s.is_logged f ≡ true → is_marked x.rounds.marks f ≡ false →
        (has_store f (round_records t s all cut later) ≡ true) ⊎ Contains (fields_of x.pending) f ⊎ HasCell l f d.now.bytes (kept_by s all cut f)
    unfound_home later f low logged not = stays_home x s p d has run cut later f low logged (finds.stays f (omega (arith, low, has.setting.fields)) not) (finds.left f not)

    value_found : (c : HomeValue) → Changes s (after_log p) cut c → IsValueIn l (kept_by s all cut) c
    value_found c change = record { field = omega (arith, change.field, has.setting.fields); value = change.value }

    -- the turn that acknowledges the stable cut of what is logged, where no cell waits
    module _ (logged_all : log_from x.memory.fresh ≡ []) (none_waits : x.pending ≡ []) where
      no_fresh : p.fresh ≡ []
      no_fresh = sym has.remembers.fresh ∙ logged_all

      may_settle_own : MayMake l t s p.logged p.cut run.helped p.fresh [] x.committed d next places x.rounds.changed fresh []
      may_settle_own = may_make x s p d has run within words fresh (fresh_is t x.memory) next places x.rounds.changed [] []
          is_stable.whole is_stable.closed later_cut is_behind (inl refl) tt refl (none_fits x s p d has run)
          (λ k c lt. value_found _ (finds.each k c lt))
          (λ f listed. store_left f (records_since p.cut p.logged) (helper_log t (kept_by s p.logged p.cut) run.helped)
          (sym (ap (λ (xs : List (ℕ × Record)). has_store f (records_since p.cut (xs ++ p.logged))) no_fresh)
          ∙ listed_has (λ g. has_store g (records_since p.cut all) ≡ true) x.rounds.changed f (λ k c lt. (finds.each k c lt).live) listed))
          (λ f low logged. elim (marked_or_not x.rounds.marks f) [
            | inl is ↦ inr (inl ((finds.listed f).1 is))
            | inr not ↦ elim (unfound_home [] f low logged not) [
              | inl stored ↦ inl stored
              | inr (inl waits) ↦ absurd (none_listed f (subst (λ (cells : List HomeValue). Contains (fields_of cells) f) none_waits waits))
              | inr (inr cell) ↦ inr (inr cell)
            ]
          ])

      pub may_settle : (cells : List HomeValue) → cells ≡ x.rounds.changed → MayMake l t s p.logged p.cut run.helped p.fresh [] x.committed d next places cells fresh []
      may_settle cells same = subst (λ (xs : List HomeValue). MayMake l t s p.logged p.cut run.helped p.fresh [] x.committed d next places xs fresh []) (sym same) may_settle_own

    -- the turn that does both, with sections of the helper's for what the cut keeps
    module _ (sorted : List HomeValue) (moved : IsPermutation x.rounds.changed sorted) where
      change_all : All (Changes s (after_log p) cut) sorted
      change_all = All-permutation (Changes s (after_log p) cut) x.rounds.changed sorted moved finds.each

      pub changes : AreChanges s all cut x.guards x.rounds.first sorted
      changes = record {
        legal = has.past.legal;
        whole = is_stable.whole;
        closed = is_stable.closed;
        guarded = λ f low. has.setting.guards f no_object low;
        taken = λ o low. ap told (finds.first o) ∙ told_one_more (first_taken o (records_since cut all));
        each = λ k c lt. let change : Changes s (after_log p) cut _ = change_all k c lt in record { field = change.field; logged = change.logged; value = change.value; stored = change.kept };
      }

      pub waiting : All (IsValueIn l (kept_by s all cut)) sorted
      waiting = λ k c lt. value_found _ (change_all k c lt)

      abbrev later : List HelperSection
      later = sections_of x.guards x.rounds.first sorted

      module _ (old helper : List UndoRecord) (empty : old ≡ []) (adds : AddsSections x.guards x.rounds.first sorted old helper) (loggable : AddsLoggable x.guards x.rounds.first sorted)
          (size : length helper ≡ needed_of x.guards sorted) (helped : IsHelped l t (row_of x.committed.rows t) (needed_of x.guards sorted)) where
        added : AreAdded x.guards x.rounds.first sorted s all cut t old helper
        added = adds s all cut t changes

        pub stored : (f : ℕ) → Contains (fields_of sorted) f ↔ (has_store f (helper_log t (kept_by s all cut) later) ≡ true)
        stored = added.stores

        are : helper ≡ section_undo x.guards x.rounds.first sorted s all cut t
        are = added.records ∙ ap (λ (xs : List UndoRecord). xs ++ section_undo x.guards x.rounds.first sorted s all cut t) empty

        may_join_own : MayMake l t s p.logged p.cut run.helped p.fresh later x.committed d next places (settled_values x.rounds x.pending) fresh helper
        may_join_own = may_make x s p d has run within words fresh (fresh_is t x.memory) next places (settled_values x.rounds x.pending) helper later
            is_stable.whole is_stable.closed later_cut is_behind (inr helped.there) added.preceding are
            (λ there. some_fits x s p d has run helper
            (subst (λ (xs : List UndoRecord). All (IsLoggable l) xs) (sym are) (loggable l s all cut t has.layout.limits (sym has.setting.objects) (sym has.setting.fields) has.setting.last changes))
            (omega (arith, helped.fits, size)) (omega (arith, helped.limit, size)))
            (λ k c lt.
            let is : IsValueIn l (kept_by s p.logged p.cut) _ = settled_all (IsValueIn l (kept_by s p.logged p.cut)) x.rounds x.pending run.values k c lt in
            let low : (i : ℕ) (e : HomeValue) → i < length x.pending → _ < length x.rounds.kept = λ i e under. let v = run.values i e under in omega (arith, v.field, has.setting.fields, has.rounds.fields) in
            let not = settled_unmarked x.rounds x.pending low k c lt in
            record { field = is.field; value = is.value ∙ sym (kept_still x s p d has _) ∙ sym (finds.stays _ (omega (arith, is.field, has.setting.fields)) not) })
            (λ f listed. store_right f (records_since p.cut p.logged) (helper_log t (kept_by s p.logged p.cut) run.helped) (run.covered f (settled_was f x.rounds x.pending listed)))
            (λ f low logged. elim (marked_or_not x.rounds.marks f) [
              | inl is ↦ inl (store_right f (records_since cut all) (helper_log t (kept_by s all cut) later) ((stored f).0 (listed_moved f x.rounds.changed sorted moved ((finds.listed f).1 is))))
              | inr not ↦ elim (unfound_home later f low logged not) [
                | inl live ↦ inl live
                | inr (inl waits) ↦ inr (inl (settled_listed f x.rounds x.pending not waits))
                | inr (inr cell) ↦ inr (inr cell)
              ]
            ])

        -- in whichever order the cells are written
        pub may_join : (cells : List HomeValue) → IsPermutation (settled_values x.rounds x.pending) cells → MayMake l t s p.logged p.cut run.helped p.fresh later x.committed d next places cells fresh helper
        may_join cells other =
            let was : MayMake l t s p.logged p.cut run.helped p.fresh later x.committed d next places (settled_values x.rounds x.pending) fresh helper = may_join_own in
            record {
              on = was.on;
              all_lanes = was.all_lanes;
              helper_lane = was.helper_lane;
              legal = was.legal;
              lanes = was.lanes;
              whole = was.whole;
              closed = was.closed;
              more = was.more;
              preceding = was.preceding;
              behind = was.behind;
              records = was.records;
              fits = was.fits;
              helper_are = was.helper_are;
              helper_fits = was.helper_fits;
              values = All-permutation (IsValueIn l (kept_by s all cut)) (settled_values x.rounds x.pending) cells other was.values;
              covered = λ f listed. was.covered f (listed_moved f cells (settled_values x.rounds x.pending) (IsPermutation-sym (settled_values x.rounds x.pending) cells other) listed);
              homes = λ f low logged. elim (was.homes f low logged) [
                | inl live ↦ inl live
                | inr (inl waits) ↦ inr (inl (listed_moved f (settled_values x.rounds x.pending) cells other waits))
                | inr (inr cell) ↦ inr (inr cell)
              ];
            }

-- the cells that a turn writes, as a list of them
pub cells_as : {taken cells left settled : List HomeValue} → cells ≡ taken → IsPermutation left taken → left ≡ settled → IsPermutation settled cells
cells_as {taken} {cells} {left} {settled} is moved same = subst (λ (xs : List HomeValue). IsPermutation xs cells) same (subst (IsPermutation left) (sym is) moved)

-- no more fields are found than the image has
pub found_few : (x : Known) (s : Setting) (p : Past) (d : Device) → HasPast x s p d → (next : Cut) (places : List ℕ) → IsPlan x.sections x.rounds next places →
    (changed : List HomeValue) → changed ≡ x.rounds.changed → length changed ≤ x.layout.fields
found_few x s p d has next places plan changed same =
    omega (arith, (found x.threads s p x.memory x.sections x.rounds next places (tells_now x s p d has) plan).few, has.setting.fields, ap (λ (cs : List HomeValue). length cs) same)

-- the cut is the acknowledged one where the rows count its sections
module _ (x : Known) (s : Setting) (p : Past) (d : Device) (has : HasPast x s p d) where
  none_of : (cut : ℕ → ℕ) → IsWhole (actions (applied p)) cut → (k : ℕ) → x.threads ≤ k → cut k ≡ 0
  none_of cut whole k past = omega (arith, whole k, ap ended (lane_actions k (applied p) ∙ ap (map action) (none_past x.threads k (applied p) (of_lanes x s p d has) past)))

  pub acknowledged_is : (next : Cut) → IsStable (actions (applied p)) (counts_of next) → ((k : ℕ) → k < x.threads → counts_of next k ≡ (row_of x.committed.rows k).kept) → (k : ℕ) → counts_of next k ≡ p.cut k
  acknowledged_is next stable kept k = elim (cases_lt k x.threads) [
    | inl low ↦ kept k low ∙ has.kept k low
    | inr past ↦ none_of (counts_of next) stable.whole k past ∙ sym (none_of p.cut (whole_still x s p d has) k past)
  ]

  pub is_acknowledged : (next : Cut) → IsStable (actions (applied p)) (counts_of next) → IsStable (actions (applied p)) p.cut → (k : ℕ) → k < x.threads → counts_of next k ≡ (row_of x.committed.rows k).kept
  is_acknowledged next stable is k low = stable_once (actions (applied p)) (counts_of next) p.cut stable is k ∙ sym (has.kept k low)
