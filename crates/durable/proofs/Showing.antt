-- What an image stands for that shows a store's past, or what its next step makes of it.
use Rattle.std.proofs.Common.{ℕ, ◌≡◌, ◌≤◌, List, [], ◌∷◌, ◌++◌, if◌then◌else◌, map, refl, ap, sym, subst, ◌∙◌, arith}
use Rattle.std.proofs.lemmas.Bool.{ne_eqb}
use Rattle.heap_model.specs.declared.record.Record.{Record}
use Rattle.heap_model.specs.Setting.{Setting}
use Rattle.heap_model.specs.Record.{undo_of}
use Rattle.heap_model.specs.Log.{lane}
use Rattle.heap_model.specs.Sections.{actions}
use Rattle.heap_model.specs.Cuts.{IsStable}
use Rattle.law_cuts.proofs.Stays.{cut_stays}
use Rattle.block_disk.specs.Device.{Device}
use Rattle.image_parts.specs.declared.layout.Layout.{Layout}
use Rattle.undo_log.specs.Dropped.{undo_logs}
use Rattle.undo_log.specs.StandsFor.{StandsFor}
use Rattle.heap_model.specs.Past.{Past, IsPast, applied, after_log, after_settle, after_trim}
use Rattle.store_memory.specs.Fresh.{IsOfLanes}
use Rattle.store_image.specs.KeptHeap.{kept_heap, StandsForCut}
use Rattle.durable.specs.Store.{Known, HasPast, ShowsStep, Shows, ShowsLogged, ShowsSettled, ShowsTrimmed, StandsForStep, Stands, StandsSettled}
use Rattle.durable.specs.declared.doubt.Doubt.{Doubt}
use Rattle.store_image.proofs.Growing.{kept_grown}
use Rattle.durable.proofs.Pasts.{past_log}
use Rattle.store_image.proofs.Stands.{same_heap, stands}

-- a lane beyond those of the records has none
pub lane_beyond : (n l : ℕ) (log : List (ℕ × Record)) → IsOfLanes n log → n ≤ l → lane l log ≡ []
lane_beyond n l [] of past = refl
lane_beyond n l (x ∷ older) of past = ap (λ b. if b then x.1 ∷ lane l older else lane l older) (ne_eqb x.0 l (omega (arith, of.0))) ∙ lane_beyond n l older of.1 past

-- so have the older of them
pub of_lanes_before : (n : ℕ) (newer log : List (ℕ × Record)) → IsOfLanes n (newer ++ log) → IsOfLanes n log
of_lanes_before n [] log of = of
of_lanes_before n (x ∷ newer) log of = of_lanes_before n newer log of.1

-- the undo logs of lanes that the layout doesn't have
pub undone_beyond : (n l : ℕ) (log : List (ℕ × Record)) → IsOfLanes n log → n ≤ l → undo_logs log l ≡ []
undone_beyond n l log of past = ap (λ (xs : List Record). map undo_of xs) (lane_beyond n l log of past)

-- a settled past is one
pub past_settle : (s : Setting) (p : Past) (cut : ℕ → ℕ) → IsPast s p → IsStable (actions p.logged) cut → IsPast s (after_settle p cut)
past_settle s p cut was stable = record {
  legal = was.legal;
  within = stable.greatest p.base was.base_whole was.base_closed;
  base_whole = was.base_whole;
  base_closed = was.base_closed;
  whole = stable.whole;
  closed = stable.closed;
}

-- so is a trimmed one
pub past_trim : (s : Setting) (p : Past) → IsPast s p → IsPast s (after_trim p)
past_trim s p was = record {
  legal = was.legal;
  within = λ l. omega arith;
  base_whole = was.whole;
  base_closed = was.closed;
  whole = was.whole;
  closed = was.closed;
}

-- what is logged next leaves the heap of the acknowledged cut
pub logged_heap : (l : Layout) (s : Setting) (p : Past) → IsPast s p → kept_heap l s (p.fresh ++ p.logged) p.cut ≡ kept_heap l s p.logged p.cut
logged_heap l s p is = sym (same_heap l s p.logged (p.fresh ++ p.logged) p.cut (λ f. kept_grown s p.fresh p.logged p.cut f is.legal is.whole))

-- each such image stands for the heap of the acknowledged cut, or of the stable one
pub shown_stands : (l : Layout) (s : Setting) (p : Past) (w : Doubt) → IsPast s p → IsOfLanes l.lanes (applied p) → (image : List ℕ) → ShowsStep l s p w image → StandsForStep l s p w image
shown_stands l s p w is of image (Shows shown) = Stands (stands l s p is (λ k from. undone_beyond l.lanes k p.logged (of_lanes_before l.lanes p.fresh p.logged of) from) image shown)
shown_stands l s p w is of image (ShowsLogged doubt shown) =
    let after : StandsForCut l s (p.fresh ++ p.logged) p.cut image = stands l s (after_log p) (past_log cut_stays s p is) (λ k from. undone_beyond l.lanes k (p.fresh ++ p.logged) of from) image shown in
    Stands (record { heap = subst (StandsFor l image) (logged_heap l s p is) after.heap; sections = after.sections })
shown_stands l s p w is of image (ShowsSettled doubt clean cut stable shown) =
    StandsSettled doubt clean cut stable (stands l s (after_settle p cut) (past_settle s p cut is stable) (λ k from. undone_beyond l.lanes k p.logged (of_lanes_before l.lanes p.fresh p.logged of) from) image shown)
shown_stands l s p w is of image (ShowsTrimmed doubt shown) =
    Stands (stands l s (after_trim p) (past_trim s p is) (λ k from. undone_beyond l.lanes k p.logged (of_lanes_before l.lanes p.fresh p.logged of) from) image shown)

-- and so does each image of a store that has the past
pub past_stands : (x : Known) (s : Setting) (p : Past) (w : Doubt) (d : Device) → HasPast x s p d → (image : List ℕ) → ShowsStep x.layout s p w image → StandsForStep x.layout s p w image
past_stands x s p w d has image shown =
    shown_stands x.layout s p w has.past (subst (λ n. IsOfLanes n (applied p)) has.layout.lanes has.remembers.of_lanes) image shown
