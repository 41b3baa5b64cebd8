-- What is known of an image at a path, by the disk that it was.
use Rattle.std.proofs.Common.{ℕ, ◌≡◌, ◌≢◌, ◌⊎◌, List, [], Option, None, Some, ap, arith, inl, inr, refl, subst, sym, ◌∙◌}
use Rattle.std.specs.Prelude.{IfSome}
use Rattle.block_disk.specs.Device.{Device, Image, LeftSince, SameMoments, new_device, synced}
use Rattle.block_disk.specs.Images.{LeavesOnly}
use Rattle.block_disk.proofs.Images.{only_now}
use Rattle.guards.specs.Schema.{Declarations}
use Rattle.image_parts.specs.declared.layout.Layout.{Layout}
use Rattle.recover.specs.Recovery.{IsCutOff, IsLeftAlone, IsOnTheWay, LeavesOnTheWay}
use Rattle.recover.specs.Study.{IsStudyOf}
use Rattle.recover.specs.declared.studied.Study.{Study}
use Rattle.recover_heap.specs.declared.error.RecoverError.{RecoverError}
use Rattle.recover_heap.specs.declared.error.RecoverError.TheVariants.{Fault}
use Rattle.recover.specs.declared.versions.Versions.{Versions}
use Rattle.image_file.specs.Formatting.{IsImageFor, MayBeMade, StaysOrIsMade}
use Rattle.image_file.specs.Images.{IsLeft, IsThere, Stays}
use Rattle.image_file.specs.Recovering.{IsOnTheWayAt, IsRecoveredAt, IsToldOf}
use Rattle.image_file.specs.declared.error.ImageFault.TheVariants as images
use Rattle.image_file.specs.declared.new_image.NewImage.{NewImage}

-- with nothing pending it is what its disk reads
pub reads_left : (d : Device) (held : Option (List ℕ)) → d.now.pending ≡ [] → IsLeft d.now held → IsThere d.now.bytes held
reads_left d None none left = tt
reads_left d (Some image) none left = only_now d image none left

-- of a disk that was only synced it is what the disk read before
pub reads_as_found : (old new : Device) (held : Option (List ℕ)) → SameMoments (synced old) new → IsLeft new.now held → IsThere old.now.bytes held
reads_as_found old new held same left =
    subst (λ (bytes : List ℕ). IsThere bytes held) (λ i. (same.now i).bytes) (reads_left new held (λ i. (same.now i).pending) left)

-- nothing has changed
pub stays_same : (had has : Option (List ℕ)) → has ≡ had → Stays had has
stays_same None has same = tt
stays_same (Some was) has same = subst (λ (h : Option (List ℕ)). IfSome h (λ there. there ≡ was)) (sym same) refl

-- one image was there, and is
pub stays_both : (image : List ℕ) (had has : Option (List ℕ)) → IsThere image had → IsThere image has → Stays had has
stays_both image None has was there = tt
stays_both image (Some a) None was there = tt
stays_both image (Some a) (Some b) was there = there ∙ sym was

-- an image that was left before a recovery's first sync was answered is the old one
early_left : (s : Study) (bytes image : List ℕ) → IsStudyOf bytes s → LeftSince 1 (synced (new_device bytes)) image → IsOnTheWay s image
early_left s bytes image of (inl now) = inl (subst (λ (b : List ℕ). IsStudyOf b s) (sym (only_now (synced (new_device bytes)) image refl now.1)) of)
early_left s bytes image of (inr (inl past)) = absurd (omega (arith, past.0))
early_left s bytes image of (inr (inr none)) = elim none [ ]

-- either that, or it is on the way
late_left : (s : Study) (bytes image : List ℕ) → IsStudyOf bytes s → LeftSince 1 (synced (new_device bytes)) image ⊎ IsOnTheWay s image → IsOnTheWay s image
late_left s bytes image of (inl early) = early_left s bytes image of early
late_left s bytes image of (inr way) = way

-- what a disk may leave that a recovery has had is on the way
left_way : (s : Study) (found left : Device) (image : List ℕ) → found ≡ new_device found.now.bytes → IsStudyOf found.now.bytes s → LeavesOnTheWay s found left
    → Image left.now image → IsOnTheWay s image
left_way s found left image fresh of (inl same) there =
    let none : left.now.pending ≡ [] = (λ i. (same.now i).pending) ∙ (λ i. (fresh i).now.pending) in
    let is : image ≡ found.now.bytes = only_now left image none there ∙ (λ i. (same.now i).bytes) in
    inl (subst (λ (b : List ℕ). IsStudyOf b s) (sym is) of)
left_way s found left image fresh of (inr leaves) there =
    let only : LeavesOnly (synced (new_device found.now.bytes)) left (IsOnTheWay s) = subst (λ (d : Device). LeavesOnly (synced d) left (IsOnTheWay s)) fresh leaves in
    late_left s found.now.bytes image of (only.each 1 image (omega arith) (inl (only.later, there)))

-- a disk of which nothing was asked but a sync leaves what it had
alone_left : (found left : Device) (image : List ℕ) → found ≡ new_device found.now.bytes → IsLeftAlone found left → Image left.now image → image ≡ found.now.bytes
alone_left found left image fresh (inl same) there =
    let none : left.now.pending ≡ [] = (λ i. (same.now i).pending) ∙ (λ i. (fresh i).now.pending) in
    only_now left image none there ∙ (λ i. (same.now i).bytes)
alone_left found left image fresh (inr same) there =
    let none : left.now.pending ≡ [] = λ i. (same.now i).pending in
    only_now left image none there ∙ (λ i. (same.now i).bytes)

-- a recovery that was cut off asked no more of an image without a study
pub cut_off_alone : (found left : Device) → IsCutOff found left → ((s : Study) → IsStudyOf found.now.bytes s → ⊥) → IsLeftAlone found left
cut_off_alone found left (inl same) none = inl same
cut_off_alone found left (inr (inl same)) none = inr same
cut_off_alone found left (inr (inr (s, of, way))) none = absurd (none s of)

-- so what is at the path is on the way
pub on_the_way : (had has : Option (List ℕ)) (found left : Device) → found ≡ new_device found.now.bytes → IsThere found.now.bytes had
    → ((s : Study) → IsStudyOf found.now.bytes s → LeavesOnTheWay s found left)
    → (((s : Study) → IsStudyOf found.now.bytes s → ⊥) → IsLeftAlone found left) → IsLeft left.now has → IsOnTheWayAt had has
on_the_way None has found left fresh was leaves alone there = tt
on_the_way (Some a) None found left fresh was leaves alone there = tt
on_the_way (Some a) (Some b) found left fresh was leaves alone there = record {
  same = λ s of.
      let is = subst (λ (image : List ℕ). IsStudyOf image s) was of in
      left_way s found left b fresh is (leaves s is) there;
  stays = λ none. alone_left found left b fresh (alone (λ s of. none s (subst (λ (image : List ℕ). IsStudyOf image s) (sym was) of))) there ∙ sym was;
}

-- and so it is where nothing was done
pub same_way : (had has : Option (List ℕ)) → has ≡ had → IsOnTheWayAt had has
same_way None has same = tt
same_way (Some was) has same = subst (λ (h : Option (List ℕ)). IsOnTheWayAt (Some was) h) (sym same) (record {
  same = λ s of. inl of;
  stays = λ none. refl;
})

-- it was recovered
pub is_recovered : (versions : Versions) (had has : Option (List ℕ)) (found left : Device) (text : List ℕ) → found ≡ new_device found.now.bytes
    → IsThere found.now.bytes had → IsToldOf versions found left text → left.now.pending ≡ []
    → ((s : Study) → IsStudyOf found.now.bytes s → LeavesOnly (synced found) left (IsOnTheWay s)) → IsLeft left.now has → IsRecoveredAt versions had has text
is_recovered versions had has found left text fresh was told durable any there = record {
  image = found.now.bytes;
  was = was;
  device = left;
  told = subst (λ (d : Device). IsToldOf versions d left text) fresh told;
  left = reads_left left has durable there;
  way = on_the_way had has found left fresh was (λ s of. inr (any s of)) (λ none. absurd (none told.study told.of)) there;
}

-- it was refused
pub refused_stays : (why : RecoverError) (had has : Option (List ℕ)) (found left : Device) → IsThere found.now.bytes had
    → (why ≡ Fault) ⊎ SameMoments (synced found) left → IsLeft left.now has → images.Image why ≢ images.Image Fault → Stays had has
refused_stays why had has found left was (inl is) there other = absurd (other (ap images.Image is))
refused_stays why had has found left was (inr same) there other = stays_both found.now.bytes had has was (reads_as_found found left has same there)

-- a new one isn't put in its place
pub not_replaced : (schema : Declarations) (asked : NewImage) (layout : Layout) (d : Device) (had mid has : Option (List ℕ)) → IsImageFor schema asked layout d
    → d.now.pending ≡ [] → mid ≡ had → (has ≡ mid) ⊎ IsLeft d.now has → StaysOrIsMade schema asked had has
not_replaced schema asked layout d had mid has image durable same (inl stays) = inl (stays_same had has (stays ∙ same))
not_replaced schema asked layout d had mid has image durable same (inr left) = inr (layout, d, image, reads_left d has durable left)

-- whatever the schema
pub may_be_made : (schema : Declarations) (asked : NewImage) (had has : Option (List ℕ)) → StaysOrIsMade schema asked had has → MayBeMade asked had has
may_be_made schema asked had has (inl stays) = inl stays
may_be_made schema asked had has (inr (layout, d, image, there)) = inr (schema, layout, d, image, there)
