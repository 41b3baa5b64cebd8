-- A store begins with a device as recovery leaves it.
use Rattle.std.proofs.Common.{◌≡◌, inr, ℕ, zero, suc, ◌<◌, if◌then◌else◌, true, false, not, List, [], ◌∷◌, get_or, map, refl, sym, ap, subst, ◌∙◌, arith}
use Rattle.std.specs.Prelude.{replicate, slice_index}
use Rattle.std.proofs.lemmas.Bool.{ne_eqb}
use Rattle.heap_model.specs.declared.record.Record.{Record}
use Rattle.heap_model.specs.Record.{undo_of}
use Rattle.heap_model.specs.Setting.{Setting}
use Rattle.heap_model.specs.Log.{lane, IsLegal}
use Rattle.heap_model.specs.Sections.{Earlier, Took}
use Rattle.heap_model.specs.Cuts.{IsClosed}
use Rattle.block_disk.specs.Device.{Device}
use Rattle.block_disk.proofs.Images.{always_only}
use Rattle.image_parts.specs.Cells.{HasCell}
use Rattle.image_parts.specs.Control.{empty_control}
use Rattle.image_parts.specs.Guards.{no_row}
use Rattle.image_parts.specs.Recovered.{IsRecovered}
use Rattle.image_parts.specs.Rows.{empty_row}
use Rattle.image_parts.specs.declared.guard_row.GuardRow.{GuardRow}
use Rattle.image_parts.specs.declared.lane_row.LaneRow.{LaneRow}
use Rattle.image_parts.specs.declared.layout.Layout.{Layout}
use Rattle.image_parts.specs.declared.slot.Slot.{Slot}
use Rattle.image.proofs.Commits.{steady_now}
use Rattle.undo_log.specs.StandsFor.{AreRowsOf, guard_in, is_transient_in}
use Rattle.heap_model.specs.Past.{Past, IsPast, applied, no_past, after_apply}
use Rattle.store_image.specs.Consistent.{HasParts, IsConsistent}
use Rattle.store_image.specs.declared.committed.Committed.{Committed}

-- the control of a device as recovery leaves it: nothing in any log
abbrev pub empty_committed : Slot → (sequence : ℕ) → Committed
empty_committed slot sequence = record { slot = slot; sequence = sequence; rows = replicate 32 empty_row }

-- the fields' guards and marks are those of the guard rows, and their first values those that they have at home
pub record IsSettingOf (l : Layout) (rows : List GuardRow) (heap : List ℕ) (s : Setting) : Type 0 where
  pub guard : (f : ℕ) → f < l.fields → guard_in rows f ≡ s.guard f
  pub mark : (f : ℕ) → f < l.fields → is_transient_in rows f ≡ not (s.is_logged f)
  pub first : (f : ℕ) → f < l.fields → slice_index heap f ≡ s.first f

-- a cut with nothing in it is closed
none_closed : IsClosed [] (λ l. 0)
none_closed a b counted (Earlier same less) = absurd (omega (arith, counted, less))
none_closed a b counted (Took o n took freed differ) = absurd took

none_past : (s : Setting) → IsPast s no_past
none_past s = record {
  legal = tt;
  within = λ l. omega arith;
  base_whole = λ l. omega arith;
  base_closed = none_closed;
  whole = λ l. omega arith;
  closed = none_closed;
}

-- each row is empty
rows_empty : (n k : ℕ) → get_or (replicate n empty_row) k empty_row ≡ empty_row
rows_empty zero k = refl
rows_empty (suc n) zero = refl
rows_empty (suc n) (suc k) = rows_empty n k

module _ (l : Layout) (s : Setting) (d : Device) (rows : List GuardRow) (slot : Slot) (sequence : ℕ) (heap : List ℕ) (is : IsRecovered d l rows slot sequence heap) (of : IsSettingOf l rows heap s) where
  cell : (f : ℕ) → f < l.fields → s.is_logged f ≡ true → HasCell l f d.now.bytes (s.first f)
  cell f below logged = subst (HasCell l f d.now.bytes) (of.first f below) ((is.homes.each f no_row below).persistent (of.mark f below ∙ ap not logged))

  rows_are : AreRowsOf l.fields rows s
  rows_are = record {
    guard = of.guard;
    mark = of.mark;
    first = λ f below unlogged. sym ((is.homes.each f no_row below).transient (of.mark f below ∙ ap not unlogged)) ∙ of.first f below;
  }

  parts : HasParts l s [] (λ k. 0) (λ k. 0) d.now.bytes
  parts = record {
    room = is.image.room;
    header = is.image.header;
    guards = rows;
    guarded = is.image.guards;
    rows = rows_are;
    live = λ k below. tt;
    homes = λ f below logged. inr (cell f below logged);
  }

  pub begins : IsConsistent l s no_past (empty_committed slot sequence) d
  begins = record {
    limits = is.image.header.limits;
    room = is.image.room;
    past = none_past s;
    lanes = λ k from. refl;
    tells = record {
      start = λ k below. ap (λ (r : LaneRow). r.start) (rows_empty 32 k);
      settled = λ k below. ap (λ (r : LaneRow). r.settled) (rows_empty 32 k);
      logged = λ k below. ap (λ (r : LaneRow). r.logged) (rows_empty 32 k);
      kept = λ k below. ap (λ (r : LaneRow). r.kept) (rows_empty 32 k);
    };
    steady = steady_now l d slot (empty_control sequence) is.durable is.control;
    parts = always_only d (HasParts l s [] (λ k. 0) (λ k. 0)) is.durable parts;
    dirty = λ f below was. absurd (let no : false ≡ true = was in cc);
    clean = λ f below was logged. cell f below logged;
  }

-- and stays in agreement with it while records are applied
pub applies : (l : Layout) (s : Setting) (p : Past) (c : Committed) (d : Device) (m : ℕ) (r : Record) → IsConsistent l s p c d → m < l.lanes → IsLegal s ((m, r) ∷ applied p) → IsConsistent l s (after_apply p m r) c d
applies l s p c d m r consistent below legal = record {
  limits = consistent.limits;
  room = consistent.room;
  past = record {
    legal = legal;
    within = consistent.past.within;
    base_whole = consistent.past.base_whole;
    base_closed = consistent.past.base_closed;
    whole = consistent.past.whole;
    closed = consistent.past.closed;
  };
  lanes = λ k from. ap (λ b. map undo_of (if b then r ∷ lane k (applied p) else lane k (applied p))) (ne_eqb m k (λ same. omega (arith, same, below, from))) ∙ consistent.lanes k from;
  tells = consistent.tells;
  steady = consistent.steady;
  parts = consistent.parts;
  dirty = consistent.dirty;
  clean = consistent.clean;
}
