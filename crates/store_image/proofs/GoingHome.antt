-- The write of one home cell.
use Rattle.std.proofs.Common.{◌≡◌, refl, inl, inr, ℕ, ◌<◌, if◌then◌else◌, true, false, List, [], ◌∷◌, sym, subst, arith}
use Rattle.std.specs.Int.{to_be_bytes, w64}
use Rattle.std.proofs.lemmas.Bool.{cases_lt}
use Rattle.std.proofs.lemmas.Bool.Decides.{eqb_tells}
use Rattle.heap_model.specs.Setting.{Setting}
use Rattle.heap_model.specs.Log.{value}
use Rattle.block_disk.specs.Device.{Range, Device, SameOutside, written}
use Rattle.block_disk.specs.Images.{Always, ImageBut, IsApart, LeavesOnly}
use Rattle.block_disk.proofs.Images.{besides_none, besides_survives, now_too, weaker}
use Rattle.block_disk.proofs.Ranges.{spliced_same}
use Rattle.image_parts.specs.Cells.{HasCell, cell_range}
use Rattle.image_parts.specs.Control.{control_of}
use Rattle.image_parts.specs.Laws.{AreApart}
use Rattle.image_parts.specs.Layout.{cell_at}
use Rattle.image_parts.specs.declared.layout.Layout.{Layout}
use Rattle.image.proofs.Commits.{steady_stays}
use Rattle.image_parts.proofs.SlotLemmas.{shows_survives}
use Rattle.image_parts.proofs.Places.{places, cell_survives}
use Rattle.undo_log.specs.Dropped.{IsDropped}
use Rattle.heap_model.specs.Past.{Past, after_home}
use Rattle.store_image.specs.Consistent.{HasParts, ShowsPast, IsConsistent}
use Rattle.store_image.specs.KeptHeap.{StandsForCut}
use Rattle.store_image.specs.Sequences.{ShowsUpTo}
use Rattle.store_image.specs.Steps.{MayGoHome}
use Rattle.store_image.specs.declared.committed.Committed.{Committed}
use Rattle.store_image.proofs.Parts.{Spared, parts_survive}
use Rattle.store_image.proofs.Sequences.{stays_up_to, steady_up_to}
use Rattle.store_image.proofs.Stands.{stands, none_logged}

-- cells of two fields lie apart
cells_apart : (l : Layout) (f g : ℕ) → (f ≡ g → ⊥) → IsApart (cell_at l g) 8 (cell_range l f ∷ [])
cells_apart l f g ne = elim (cases_lt g f) [
  | inl before ↦ (inl (omega arith), tt)
  | inr from ↦ let behind : f < g = omega (arith, ne) in (inr (omega arith), tt)
]

module _ (l : Layout) (s : Setting) (p : Past) (c : Committed) (old : Device) (f v : ℕ) (may : MayGoHome l s p c old f v) where
  abbrev rs : List Range
  rs = cell_range l f ∷ []

  apart : AreApart l
  apart = places l may.consistent.limits

  spared : Spared l s p.logged p.base p.cut rs
  spared = record {
    header = (inl (omega arith), tt);
    guards = (inl (omega arith), tt);
    live = λ lane place below from to. (inr (omega (arith, apart.cells f lane may.field, (apart.records lane place).0)), tt);
    cells = λ g below. elim (eqb_tells f g) [
      | inl e ↦ inl (subst (λ (h : ℕ). IsDropped (s.guard h) h p.logged p.cut) e.1 (may.consistent.dirty f may.field may.dirty))
      | inr e ↦ inr (cells_apart l f g e.1)
    ];
  }

  -- each image that the write may leave shows the same past
  in_home : (image : List ℕ) → ImageBut old rs image → HasParts l s p.logged p.base p.cut image
  in_home image from = besides_survives old rs (HasParts l s p.logged p.base p.cut) may.consistent.parts (parts_survive l s p.logged p.base p.cut rs spared) image from

  module _ (new : Device) (leaves : LeavesOnly old new (ImageBut old rs)) where
    but : Always new (ImageBut old rs)
    but = now_too old new (ImageBut old rs) (besides_none old rs) leaves

    -- at every moment, whatever it answers
    shows_home : (image : List ℕ) → ImageBut old rs image → ShowsPast l s p image
    shows_home image (before, left, same) = record {
      slot = c.slot;
      control = control_of c.sequence c.rows;
      shows = shows_survives l c.slot (control_of c.sequence c.rows) rs (inl (omega arith), tt) before image (may.consistent.steady.shows before left) same;
      current = refl;
      tells = may.consistent.tells;
      parts = in_home image (before, left, same);
    }

    pub home_leaves : LeavesOnly old new (StandsForCut l s p.logged p.cut)
    home_leaves = weaker old new (ImageBut old rs) (StandsForCut l s p.logged p.cut)
        (λ image from. stands l s p may.consistent.past (none_logged l s p c old may.consistent) image (shows_home image from)) leaves

    pub home_shows : LeavesOnly old new (ShowsPast l s p)
    home_shows = weaker old new (ImageBut old rs) (ShowsPast l s p) shows_home leaves

    pub home_up_to : LeavesOnly old new (ShowsUpTo l c.sequence)
    home_up_to = (stays_up_to l c.sequence old new rs (inl (omega arith), tt) (steady_up_to l old c.slot (control_of c.sequence c.rows) c.sequence may.consistent.steady (omega arith)) leaves).0

    pub home_always : Always new (StandsForCut l s p.logged p.cut)
    home_always image left = stands l s p may.consistent.past (none_logged l s p c old may.consistent) image (shows_home image (but image left))

    -- and where it answers Ok the cell is clean
    pub home_done : new ≡ written (cell_at l f) (to_be_bytes w64 v) old → HasCell l f new.now.bytes v → IsConsistent l s (after_home p f) c new
    home_done is holds =
        let same : SameOutside rs old.now.bytes new.now.bytes = subst (λ (d : Device). SameOutside rs old.now.bytes d.now.bytes) (sym is)
        (spliced_same old.now.bytes (to_be_bytes w64 v) (cell_at l f) (omega (arith, may.consistent.room, may.field))) in
        record {
          limits = may.consistent.limits;
          room = omega (arith, may.consistent.room, same.size);
          past = record {
            legal = may.consistent.past.legal;
            within = may.consistent.past.within;
            base_whole = may.consistent.past.base_whole;
            base_closed = may.consistent.past.base_closed;
            whole = may.consistent.past.whole;
            closed = may.consistent.past.closed;
          };
          lanes = may.consistent.lanes;
          tells = may.consistent.tells;
          steady = steady_stays l old new c.slot (control_of c.sequence c.rows) rs (inl (omega arith), tt) may.consistent.steady but;
          parts = λ image left. in_home image (but image left);
          dirty = λ g below was. elim (eqb_tells f g) [
            | inl e ↦ absurd (let no : false ≡ true = subst (λ b. (if b then false else p.is_dirty g) ≡ true) e.0 was in cc)
            | inr e ↦ may.consistent.dirty g below (subst (λ b. (if b then false else p.is_dirty g) ≡ true) e.0 was)
          ];
          clean = λ g below was kept. elim (eqb_tells f g) [
            | inl e ↦ subst (λ (h : ℕ). HasCell l h new.now.bytes (value s.first h p.logged)) e.1 (subst (HasCell l f new.now.bytes) may.logged holds)
            | inr e ↦ cell_survives l g (value s.first g p.logged) rs (cells_apart l f g e.1) old.now.bytes new.now.bytes
                (may.consistent.clean g below (subst (λ b. (if b then false else p.is_dirty g) ≡ false) e.0 was) kept) same
          ];
        }
