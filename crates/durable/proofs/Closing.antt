-- What the device of a store at rest holds, and that of a closed one.
use Rattle.std.proofs.Common.{ℕ, ◌≡◌, ◌<◌, ◌++◌, true, false, List, length, sym, ap, subst, arith}
use Rattle.heap_model.specs.declared.record.Record.{Record}
use Rattle.heap_model.specs.Setting.{Setting}
use Rattle.heap_model.specs.Log.{lane, value}
use Rattle.heap_model.specs.Sections.{actions, holding}
use Rattle.heap_model.specs.KeptHeap.{kept_value}
use Rattle.law_cuts.proofs.Next.{legal_before}
use Rattle.block_disk.specs.Device.{Device}
use Rattle.block_disk.specs.Images.{Always}
use Rattle.image_parts.specs.Cells.{HasCell}
use Rattle.undo_log.specs.StandsFor.{StandsFor}
use Rattle.heap_model.specs.Past.{Past, applied}
use Rattle.store_image.specs.KeptHeap.{values_below, kept_heap, StandsForCut}
use Rattle.store_image.proofs.Stands.{stands_always}
use Rattle.durable.specs.Calls.{HasOpen, IsWritten}
use Rattle.durable.specs.Closed.{applied_heap}
use Rattle.durable.specs.Store.{Known, HasPast}
use Rattle.durable.proofs.AllKept.{Covers, all_kept}

module _ (x : Known) (s : Setting) (p : Past) (d : Device) (has : HasPast x s p d) (serves : x.has_failed ≡ false) where
  -- a store that hasn't failed stands for the acknowledged cut
  pub rests : Always d (StandsForCut x.layout s p.logged p.cut)
  rests = stands_always x.layout s p x.committed d (has.agrees serves)

  module _ (shut : HasOpen p → ⊥) (written : IsWritten s p) where
    all_logged : applied p ≡ p.logged
    all_logged = ap (λ (xs : List (ℕ × Record)). xs ++ p.logged) written.logged

    -- the home cells of the persistent fields are the heap
    pub home_cells : (f : ℕ) → f < x.layout.fields → s.is_logged f ≡ true → HasCell x.layout f d.now.bytes (value s.first f (applied p))
    home_cells f low logged =
        subst (λ (xs : List (ℕ × Record)). HasCell x.layout f d.now.bytes (value s.first f xs)) (sym all_logged)
        ((has.agrees serves).clean f low (written.home f (omega (arith, low, has.setting.fields))) logged)

    covers : Covers p.cut (actions p.logged)
    covers l = (
      written.acknowledged l,
      λ some. absurd (shut (l, subst (λ (xs : List (ℕ × Record)). 0 < length (holding (lane l (actions xs)))) (sym all_logged) some)),
    )

    same_value : (f : ℕ) → kept_value s.first p.cut f p.logged ≡ value s.first f (applied p)
    same_value f =
        subst (λ (xs : List (ℕ × Record)). kept_value s.first p.cut f p.logged ≡ value s.first f xs) (sym all_logged)
        (all_kept s p.cut f p.logged (legal_before s p.fresh p.logged has.past.legal) covers)

    same_heap : kept_heap x.layout s p.logged p.cut ≡ applied_heap x.layout s p
    same_heap = λ i. values_below (λ f. same_value f i) x.layout.fields

    -- and each image that a crash may leave stands for it
    pub home_stands : Always d (λ image. StandsFor x.layout image (applied_heap x.layout s p))
    home_stands image left = subst (StandsFor x.layout image) same_heap (rests image left).heap
