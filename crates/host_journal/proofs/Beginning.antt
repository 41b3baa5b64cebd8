-- A journal is opened, or made.
use Rattle.std.proofs.Common.{◌≡◌, inl, inr, ⊎_elim, ℕ, zero, suc, ◌≤◌, List, [], ◌∷◌, length, take, replicate, refl, sym, ◌∙◌, ap, subst, arith}
use Rattle.block_disk.specs.Device.{Device, Moment, new_device}
use Rattle.block_disk.specs.Memory.{fresh}
use Rattle.atomic_sectors.specs.Left.{LeavesWhole, MakesSyncs, MixedIn, MixedSince}
use Rattle.atomic_sectors.proofs.Calculus.{leaves_weaker, mix_one}
use Rattle.journal_batches.specs.declared.areas.Areas.{Areas}
use Rattle.journal_batches.specs.Areas.{image_bytes, room_of}
use Rattle.journal_batches.specs.Shown.{shown}
use Rattle.disk_deferred.specs.Deferred.{Deferred, deferred_device}
use Rattle.disk_journal.specs.declared.error.JournalError.{JournalError}
use Rattle.disk_journal.specs.declared.error.JournalError.TheVariants.{Fault, NoJournal, NoMemory, TooSmall, Worn}
use Rattle.disk_journal.specs.Disks.{Layered}
use Rattle.disk_journal.specs.Labels.{HasLabel, HasNoLabel}
use Rattle.disk_journal.specs.Opened.{WritesAgain}
use Rattle.disk_journal.specs.Refusals.{RefusesToMake, StandsThrough}
use Rattle.disk_journal.specs.Stands.{IsMadeOrNone, IsMadeWithin, StandsStill}
use Rattle.host_journal.specs.Calls.{IsMade, IsOpened, RefusesMaking}
use Rattle.host_journal.specs.Hosted.{EverWhole, Hosted, IsFresh, IsNew}
use Rattle.host_journal.proofs.Turning.{label_kept, reads_now}

pub fresh_disk : (d : Deferred) (bytes : List ℕ) → d.memory ≡ fresh bytes → IsFresh bytes (deferred_device d)
fresh_disk d bytes is = (
  λ i. (deferred_device (record { memory = is i; ring = d.ring })).now,
  λ i. (deferred_device (record { memory = is i; ring = d.ring })).past,
)

-- a crash of it at any moment leaves its bytes
fresh_only : (d : Device) (bytes image : List ℕ) → IsFresh bytes d → MixedSince 0 d image → image ≡ bytes
fresh_only d bytes image is left =
    only (subst (λ (ms : List Moment). MixedIn 0 ms image) (λ i. is.0 i ∷ is.1 i) left)
  where
    only : MixedIn 0 (record { bytes = bytes; pending = [] } ∷ []) image → image ≡ bytes
    only (inl now) = mix_one bytes image now.1
    only (inr was) = absurd was

-- each moment since has what its calls leave
pub ever_whole : (old new : Device) (bytes : List ℕ) (P : List ℕ → Type 0) → IsFresh bytes old → LeavesWhole old new P → P bytes → EverWhole new P
ever_whole old new bytes P is leaves p image left =
    ⊎_elim (λ was. subst P (sym (fresh_only old bytes image is was)) p) (λ has. has) (leaves.each 0 image (omega arith) left)

-- what an opening leaves
pub ever_still : (a : Areas) (old new : Device) (bytes : List ℕ) → IsFresh bytes old → HasLabel a old.now.bytes → room_of a ≤ length old.now.bytes
    → StandsThrough old new → EverWhole new (StandsStill a bytes)
ever_still a old new bytes is label room through =
    ever_whole old new bytes (StandsStill a bytes) is
    (subst (λ (xs : List ℕ). LeavesWhole old new (StandsStill a xs)) (λ i. (is.0 i).bytes) (through a label room))
    (record { size = refl; label = refl; beyond = refl; image = refl })

-- and its label is there
pub label_still : (a : Areas) (old new : Device) (bytes : List ℕ) → IsFresh bytes old → HasLabel a old.now.bytes → EverWhole new (StandsStill a bytes)
    → HasLabel a new.now.bytes
label_still a old new bytes is label ever =
    let now : StandsStill a bytes new.now.bytes = reads_now new (StandsStill a bytes) (λ image left. ever image (inl (omega arith, left))) in
    label_kept a bytes new.now.bytes now.label (subst (HasLabel a) (λ i. (is.0 i).bytes) label)

abbrev first : List ℕ → ℕ
first [] = 0
first (x ∷ xs) = x

first_zero : (n : ℕ) → first (take 24 (replicate n 0)) ≡ zero
first_zero zero = refl
first_zero (suc n) = refl

-- zeros are no label
pub zeros_unlabelled : (n : ℕ) → HasNoLabel (replicate n 0)
zeros_unlabelled n a half image is =
    let zeros = first_zero n in
    let same : first (take 24 (replicate n 0)) ≡ 77 = ap first is in
    absurd (omega (arith, zeros, same))

-- what an opening gives
pub opened_is : (h : Hosted) (o : Layered) (d : Deferred) (bytes : List ℕ) → d.memory ≡ fresh bytes → h.heap ≡ o.device → h.disk ≡ o.disk → h.areas ≡ o.areas → IsNew h
    → o.device ≡ new_device (shown o.areas (deferred_device d).now.bytes) → HasLabel o.areas (deferred_device d).now.bytes
    → room_of o.areas ≤ length (deferred_device d).now.bytes → StandsThrough (deferred_device d) o.disk → WritesAgain o.areas (deferred_device d) o.disk
    → MakesSyncs 3 (deferred_device d) o.disk → IsOpened bytes h
opened_is h o d bytes memory heap disk areas new device label room through again syncs =
    let is = fresh_disk d bytes memory in
    let same : (deferred_device d).now.bytes ≡ bytes = λ i. (is.0 i).bytes in
    record {
      heap = heap ∙ device ∙ (λ i. new_device (shown (sym areas i) (same i)));
      new = new;
      label = subst (λ (a : Areas). HasLabel a bytes) (sym areas) (subst (HasLabel o.areas) same label);
      left =
          subst (λ (a : Areas). EverWhole h.disk (StandsStill a bytes)) (sym areas)
          (subst (λ (e : Device). EverWhole e (StandsStill o.areas bytes)) (sym disk) (ever_still o.areas (deferred_device d) o.disk bytes is label room through));
      begun = deferred_device d;
      fresh = is;
      again =
          subst (λ (a : Areas). WritesAgain a (deferred_device d) h.disk) (sym areas)
          (subst (λ (e : Device). WritesAgain o.areas (deferred_device d) e) (sym disk) again);
      three_syncs = subst (λ (e : Device). MakesSyncs 3 (deferred_device d) e) (sym disk) syncs;
    }

-- what a making gives
pub made_is : (h : Hosted) (o : Layered) (d : Deferred) (a : Areas) (size : ℕ) → d.memory ≡ fresh (replicate size 0) → h.heap ≡ o.device → h.disk ≡ o.disk → h.areas ≡ o.areas
    → IsNew h → o.device ≡ new_device (replicate (image_bytes a) 0) → o.areas ≡ a
    → ((deferred_device d).now.pending ≡ [] → LeavesWhole (deferred_device d) o.disk (IsMadeWithin a (deferred_device d).now.bytes)) → IsMade a h
made_is h o d a size memory heap disk areas new device same leaves =
    let is = fresh_disk d (replicate size 0) memory in
    record {
      heap = heap ∙ device;
      areas = areas ∙ same;
      new = new;
      left =
          subst (λ (e : Device). EverWhole e (IsMadeOrNone a)) (sym disk)
          (ever_whole (deferred_device d) o.disk (replicate size 0) (IsMadeOrNone a) is (leaves_weaker (λ left m. m.1) (leaves (λ i. (is.0 i).pending)))
          (inl (zeros_unlabelled size)));
    }

-- why none is made, where the device has room for its parts
pub refuses_making : (a : Areas) (bytes : List ℕ) (why : JournalError) → room_of a ≤ length bytes → RefusesToMake a bytes why → RefusesMaking a why
refuses_making a bytes NoJournal room refused = refused
refuses_making a bytes TooSmall room (inl less) = absurd (omega (arith, less, room))
refuses_making a bytes TooSmall room (inr none) = none
refuses_making a bytes Worn room refused = refused
refuses_making a bytes Fault room refused = tt
refuses_making a bytes NoMemory room refused = tt
