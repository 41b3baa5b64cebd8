-- What a crash leaves of a store's device between two calls.
use Rattle.std.proofs.Common.{ℕ, ◌≡◌, ◌<◌, ◌≤◌, ◌⊎◌, ◌==◌, if◌then◌else◌, true, false, List, [], ◌∷◌, ◌++◌, length, refl, sym, ap, ◌∙◌, inl, inr, arith}
use Rattle.std.specs.Prelude.{Contains}
use Rattle.std.proofs.lemmas.List.{append_assoc}
use Rattle.heap_model.specs.declared.record.Record.{Record}
use Rattle.heap_model.specs.declared.record.Record.TheVariants.{Acq, Rel, WaitRel, Put}
use Rattle.heap_model.specs.Base.{records_since}
use Rattle.heap_model.specs.Setting.{Setting}
use Rattle.block_disk.specs.Device.{Device}
use Rattle.block_disk.specs.Images.{Always}
use Rattle.block_disk.proofs.Images.{always_now}
use Rattle.image_parts.specs.Cells.{HasCell}
use Rattle.image_parts.specs.Control.{control_of}
use Rattle.image_parts.specs.declared.layout.Layout.{Layout}
use Rattle.heap_model.specs.Past.{Past, has_store}
use Rattle.store_image.specs.declared.committed.Committed.{Committed}
use Rattle.store_helper_sections.specs.Going.{from_heap}
use Rattle.store_helper_sections.specs.HelperSections.{HelperSection, helper_log}
use Rattle.store_helper_sections.specs.Image.{HasHeap, ShowsCutOf, ShowsRound, kept_by, round_records}
use Rattle.store_round_image.specs.Turning.{fields_of}
use Rattle.store_round_image.specs.declared.cells.HomeValue.{HomeValue}
use Rattle.store_round_making.specs.Rounds.{IsRoundOn}
use Rattle.store_rounds.specs.Store.{HasPast, IsRunning, Known}
use Rattle.store_rounds.specs.Stops.{ShowsCut}

module _ (l : Layout) (t : ℕ) (s : Setting) where
  -- a device between rounds shows the round
  pub shows_round : (log : List (ℕ × Record)) (cut : ℕ → ℕ) (sections : List HelperSection) (c : Committed) (d : Device) → IsRoundOn l t s log cut sections c d → Always d (ShowsRound l t s log cut sections)
  shows_round log cut sections c d on image left = record {
    heap = record {
      slot = c.slot;
      control = control_of c.sequence c.rows;
      shows = on.heap.steady.shows image left;
      current = refl;
      unsettled = on.heap.unsettled;
      parts = on.heap.parts image left;
    };
    kept = on.tells.kept;
  }

  -- what shows a later cut of a beginning of the log shows a later one of a beginning of a longer log
  pub shows_more : (newer log all : List (ℕ × Record)) (less cut : ℕ → ℕ) (image : List ℕ) → all ≡ newer ++ log → ((lane : ℕ) → less lane ≤ cut lane) → ShowsCutOf l t s log cut image → ShowsCutOf l t s all less image
  shows_more newer log all less cut image same le shown = record {
    later = newer ++ shown.later;
    shown = shown.shown;
    parts = same ∙ ap (λ (xs : List (ℕ × Record)). newer ++ xs) shown.parts ∙ sym (append_assoc newer shown.later shown.shown);
    kept = shown.kept;
    more = λ lane. let more = shown.more lane in omega (arith, le lane, more);
    sections = shown.sections;
    round = shown.round;
    shows = shown.shows;
  }

  pub shows_cut : (newer log : List (ℕ × Record)) (cut : ℕ → ℕ) (sections : List HelperSection) (c : Committed) (d : Device) → IsRoundOn l t s log cut sections c d → Always d (ShowsCutOf l t s (newer ++ log) cut)
  shows_cut newer log cut sections c d on image left = record {
    later = newer;
    shown = log;
    parts = refl;
    kept = cut;
    more = λ lane. omega arith;
    sections = sections;
    round = on.round;
    shows = shows_round log cut sections c d on image left;
  }

-- a store to the field among two lists of records is one among the first or among the second
pub store_of_both : (f : ℕ) (xs ys : List (ℕ × Record)) → has_store f (xs ++ ys) ≡ true → (has_store f xs ≡ true) ⊎ (has_store f ys ≡ true)
store_of_both f [] ys is = inr is
store_of_both f ((l, Acq o n) ∷ xs) ys is = store_of_both f xs ys is
store_of_both f ((l, Rel o n) ∷ xs) ys is = store_of_both f xs ys is
store_of_both f ((l, WaitRel o n) ∷ xs) ys is = store_of_both f xs ys is
store_of_both f ((l, Put g before after) ∷ xs) ys is =
    elim (g.0 == f) as (λ b. (if b then true else has_store f (xs ++ ys)) ≡ true → ((if b then true else has_store f xs) ≡ true) ⊎ (has_store f ys ≡ true)) [
      | true ↦ λ now. inl refl
      | false ↦ λ now. store_of_both f xs ys now
    ] is

module _ (x : Known) (s : Setting) (p : Past) (d : Device) (has : HasPast x s p d) (serves : x.has_failed ≡ false) where
  on : IsRunning x s p d
  on = has.agrees serves

  -- a store at rest shows the acknowledged cut of what is logged
  pub rests : Always d (ShowsCut x.layout x.threads s p.logged p.cut)
  rests image left = record { sections = on.helped; round = on.on.round; shows = shows_round x.layout x.threads s p.logged p.cut on.helped x.committed d on.on image left }

  -- where no cell waits, the cells have what is kept, but for fields of live records
  module _ (none : x.pending ≡ []) (f : ℕ) (low : f < x.layout.fields) (logged : s.is_logged f ≡ true) where
    now : HasHeap x.layout (from_heap s (kept_by s p.logged p.cut)) (round_records x.threads s p.logged p.cut on.helped) x.committed.rows d.now.bytes
    now = always_now d (HasHeap x.layout (from_heap s (kept_by s p.logged p.cut)) (round_records x.threads s p.logged p.cut on.helped) x.committed.rows) on.on.heap.parts

    none_helped : has_store f (helper_log x.threads (kept_by s p.logged p.cut) on.helped) ≡ true → ⊥
    none_helped is =
        let there : Contains (fields_of x.pending) f = on.complete f is in
        let some = there.1 in
        omega (arith, some, ap (λ (cells : List HomeValue). length (fields_of cells)) none)

    pub is_home : (has_store f (records_since p.cut p.logged) ≡ true) ⊎ HasCell x.layout f d.now.bytes (kept_by s p.logged p.cut f)
    is_home = elim (now.homes f low logged) [
      | inl stored ↦ elim (store_of_both f (records_since p.cut p.logged) (helper_log x.threads (kept_by s p.logged p.cut) on.helped) stored) [
        | inl live ↦ inl live
        | inr helped ↦ absurd (none_helped helped)
      ]
      | inr cell ↦ inr cell
    ]
