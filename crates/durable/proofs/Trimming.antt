-- What a store has after a trim.
use Rattle.std.proofs.Common.{◌≡◌, ℕ, ◌<◌, Bool, true, false, List, length, sym, ◌∙◌, ap, subst, inl, inr, arith}
use Rattle.std.specs.Prelude.{slice_index}
use Rattle.std.proofs.lemmas.Bool.{cases_lt}
use Rattle.std.proofs.lemmas.List.{get_or_past}
use Rattle.heap_model.specs.declared.cut.Cut.{Cut}
use Rattle.heap_model.specs.Setting.{Setting}
use Rattle.heap_model.specs.Log.{lane}
use Rattle.heap_model.specs.Cuts.{counts_of}
use Rattle.block_disk.specs.Device.{Device}
use Rattle.block_disk.proofs.Images.{image_now}
use Rattle.image_parts.specs.declared.lane_row.LaneRow.{LaneRow}
use Rattle.undo_log.specs.Dropped.{undo_logs}
use Rattle.undo_log.specs.StandsFor.{row_of}
use Rattle.undo_log.proofs.Back.{length_undo}
use Rattle.heap_model.specs.Past.{Past, IsTrimmed, after_trim}
use Rattle.store_image.specs.Consistent.{IsConsistent}
use Rattle.store_image.specs.declared.committed.Committed.{Committed}
use Rattle.store_image.proofs.Places.{records_within, cut_place}
use Rattle.store_image.proofs.Rows.{rest_is}
use Rattle.store_memory.specs.Memory.{Memory, lane_in}
use Rattle.store_memory.specs.Remembers.{Remembers}
use Rattle.store_memory.specs.Sections.{Logged, TellsSections}
use Rattle.store_memory.specs.Trimming.{MayStart, MayForget}
use Rattle.store_memory.proofs.SectionLaws.{none_past}
use Rattle.durable.specs.Store.{Known, HasPast}
use Rattle.durable.proofs.Storing.{shows_past}

-- with nothing to trim, a trim makes nothing of the past
pub trimmed_is : (p : Past) → IsTrimmed p → p ≡ after_trim p
trimmed_is p trimmed = λ i. record p { base = λ l. trimmed l i }

-- a test that says no
pub not_trimmed : (is : Bool) (p : Past) → (is ≡ true → IsTrimmed p) × (IsTrimmed p → is ≡ true) → is ≡ false → IsTrimmed p → ⊥
not_trimmed is p tells none trimmed = let no : true ≡ false = sym (tells.1 trimmed) ∙ none in cc

module _ (x : Known) (s : Setting) (p : Past) (d : Device) (has : HasPast x s p d) (c : Committed) (e : Device) (agrees : IsConsistent x.layout s (after_trim p) c e) where
  in_image : (l : ℕ) → l < length x.memory.lanes → l < x.layout.lanes
  in_image l low = omega (arith, low, has.layout.lanes)

  -- the lanes may start behind what is acknowledged
  pub may_start : (places : List ℕ) → ((l : ℕ) → l < 32 → slice_index places l ≡ (row_of c.rows l).start) → MayStart s x.memory p places
  may_start places are = record {
    remembers = has.remembers;
    rises = λ l low. omega (
      arith,
      are l (omega (arith, in_image l low, has.layout.limits.lanes.1)),
      agrees.tells.start l (in_image l low),
      has.starts l (in_image l low),
      cut_place p.base l p.cut p.logged (has.past.within l),
    );
    logged = λ l low. omega (
      arith,
      are l (omega (arith, in_image l low, has.layout.limits.lanes.1)),
      agrees.tells.start l (in_image l low),
      records_within (p.cut l) (undo_logs p.logged l),
      length_undo (lane l p.logged),
    );
  }

  -- the rows have the acknowledged cut, also of the lanes that the image doesn't have
  pub cut_is : (cut : Cut) → length cut.counts ≡ 32 → ((l : ℕ) → l < 32 → counts_of cut l ≡ (row_of c.rows l).kept) → (l : ℕ) → counts_of cut l ≡ p.cut l
  cut_is cut size are l = elim (cases_lt l x.layout.lanes) [
    | inl low ↦ are l (omega (arith, low, has.layout.limits.lanes.1)) ∙ agrees.tells.kept l low
    | inr from ↦
        let none : p.cut l ≡ 0 = omega (arith, has.past.whole l, none_past x.logged p.base p.logged has.sections l (omega (arith, from, has.layout.logged_lanes))) in
        elim (cases_lt l 32) [
          | inl lt ↦ are l lt ∙ ap (λ (r : LaneRow). r.kept) (rest_is x.layout c.rows (agrees.steady.shows e.now.bytes (image_now e)).spells.valid.rows l from) ∙ sym none
          | inr past ↦ get_or_past cut.counts l 0 (omega (arith, past, size)) ∙ sym none
        ]
  ]

  pub may_forget : (cut : ℕ → ℕ) → ((l : ℕ) → cut l ≡ p.cut l) → MayForget x.logged p.base p.logged cut
  may_forget cut is = subst (λ (k : ℕ → ℕ). MayForget x.logged p.base p.logged k) (λ i l. sym (is l) i)
      (record { tells = has.sections; within = has.past.within; whole = has.past.whole; closed = has.past.closed })

  trimmed_has : (m : Memory) (g : Logged) (places : List ℕ) (cut : ℕ → ℕ) → ((l : ℕ) → l < 32 → slice_index places l ≡ (row_of c.rows l).start) → ((l : ℕ) → cut l ≡ p.cut l) →
      Remembers s m (after_trim p) → length m.lanes ≡ length x.memory.lanes → m.capacity ≡ x.memory.capacity → ((l : ℕ) → l < length x.memory.lanes → (lane_in m.lanes l).start ≡ slice_index places l) →
      TellsSections g cut p.logged → g.lanes ≡ x.logged.lanes → g.capacity ≡ x.logged.capacity →
      HasPast (record { layout = x.layout; committed = c; memory = m; logged = g; has_failed = x.has_failed; doubt = x.doubt }) s (after_trim p) e
  trimmed_has m g places cut rows is remembers lanes capacity starts tells logged_lanes logged_capacity = record {
    layout = record {
      limits = has.layout.limits;
      lanes = lanes ∙ has.layout.lanes;
      capacity = capacity ∙ has.layout.capacity;
      logged_lanes = logged_lanes ∙ has.layout.logged_lanes;
      logged_capacity = logged_capacity ∙ has.layout.logged_capacity;
    };
    setting = has.setting;
    past = agrees.past;
    remembers = remembers;
    sections = subst (λ (k : ℕ → ℕ). TellsSections g k p.logged) (λ i l. is l i) tells;
    starts = λ l low. starts l (omega (arith, low, has.layout.lanes)) ∙ rows l (omega (arith, low, has.layout.limits.lanes.1)) ∙ agrees.tells.start l low;
    tells = agrees.tells;
    agrees = λ ok. agrees;
    images = shows_past x s p d has x.layout (after_trim p) c x.doubt e agrees;
  }

  -- what is acknowledged is trimmed
  pub trims : (m : Memory) (g : Logged) (places : List ℕ) (cut : Cut) → ((l : ℕ) → l < 32 → slice_index places l ≡ (row_of c.rows l).start) → length cut.counts ≡ 32 →
      ((l : ℕ) → l < 32 → counts_of cut l ≡ (row_of c.rows l).kept) → (MayStart s x.memory p places → Remembers s m (after_trim p)) → length m.lanes ≡ length x.memory.lanes → m.capacity ≡ x.memory.capacity →
      ((l : ℕ) → l < length x.memory.lanes → (lane_in m.lanes l).start ≡ slice_index places l) →
      (MayForget x.logged p.base p.logged (counts_of cut) → TellsSections g (counts_of cut) p.logged) → g.lanes ≡ x.logged.lanes → g.capacity ≡ x.logged.capacity →
      HasPast (record { layout = x.layout; committed = c; memory = m; logged = g; has_failed = x.has_failed; doubt = x.doubt }) s (after_trim p) e
  trims m g places cut rows size kept remembers lanes capacity starts tells logged_lanes logged_capacity =
      trimmed_has m g places (counts_of cut) rows (cut_is cut size kept) (remembers (may_start places rows)) lanes capacity starts
      (tells (may_forget (counts_of cut) (cut_is cut size kept))) logged_lanes logged_capacity
