-- How many sequences of the control are taken.
use Rattle.std.proofs.Common.{ℕ, ◌≡◌, ◌+◌, ◌≤◌, List, refl, sym, subst, arith}
use Rattle.block_disk.specs.Device.{Device}
use Rattle.block_disk.specs.Images.{LeavesOnly}
use Rattle.block_disk.proofs.Images.{and_then, begin, weaker}
use Rattle.image_parts.specs.declared.layout.Layout.{Layout}
use Rattle.store_image.specs.Sequences.{ShowsUpTo}
use Rattle.durable.specs.Store.{Known}
use Rattle.durable.specs.Runs.{TakesSequences}

-- what shows a control of some sequence at most shows one of any greater at most
up_to_more : (l k : Layout) (last more : ℕ) → l ≡ k → last ≤ more → (image : List ℕ) → ShowsUpTo l last image → ShowsUpTo k more image
up_to_more l k last more same le image was = subst (λ (m : Layout). ShowsUpTo m more image) same (record { slot = was.slot; control = was.control; shows = was.shows; sequence = omega (arith, was.sequence, le) })

pub shows_more : (l k : Layout) (last more : ℕ) (d e : Device) → l ≡ k → last ≤ more → LeavesOnly d e (ShowsUpTo l last) → LeavesOnly d e (ShowsUpTo k more)
shows_more l k last more d e same le leaves = weaker d e (ShowsUpTo l last) (ShowsUpTo k more) (up_to_more l k last more same le) leaves

-- the device wasn't called
pub takes_none : (x y : Known) (d e : Device) → y.committed.sequence ≡ x.committed.sequence → e ≡ d → TakesSequences 0 x d y e
takes_none x y d e sequence same = record {
  known = omega (arith, sequence);
  shown = subst (λ (f : Device). LeavesOnly d f (ShowsUpTo x.layout (x.committed.sequence + 0))) (sym same) (begin d (ShowsUpTo x.layout (x.committed.sequence + 0)));
}

-- a home step
pub takes_home : (x y : Known) (d e : Device) → y.committed.sequence ≡ x.committed.sequence → LeavesOnly d e (ShowsUpTo x.layout x.committed.sequence) → TakesSequences 0 x d y e
takes_home x y d e sequence shown = record { known = omega (arith, sequence); shown = shows_more x.layout x.layout x.committed.sequence (x.committed.sequence + 0) d e refl (omega arith) shown }

-- those that take some take more at most
pub takes_more : (most more : ℕ) (x y : Known) (d e : Device) → most ≤ more → TakesSequences most x d y e → TakesSequences more x d y e
takes_more most more x y d e le was = record {
  known = omega (arith, was.known, le);
  shown = shows_more x.layout x.layout (x.committed.sequence + most) (x.committed.sequence + more) d e refl (omega (arith, le)) was.shown;
}

-- some calls, and then others
pub takes_then : (most more : ℕ) (x y z : Known) (d e f : Device) → y.layout ≡ x.layout → TakesSequences most x d y e → TakesSequences more y e z f → TakesSequences (most + more) x d z f
takes_then most more x y z d e f layout one two = record {
  known = omega (arith, one.known, two.known);
  shown = and_then d e f (ShowsUpTo x.layout (x.committed.sequence + (most + more)))
      (shows_more x.layout x.layout (x.committed.sequence + most) (x.committed.sequence + (most + more)) d e refl (omega arith) one.shown)
      (shows_more y.layout x.layout (y.committed.sequence + more) (x.committed.sequence + (most + more)) e f layout (omega (arith, one.known)) two.shown);
}
