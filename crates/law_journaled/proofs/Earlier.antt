-- A host at an earlier moment, when it had made fewer of its calls.
use Rattle.std.proofs.Common.{◌≡◌, ℕ, suc, List, [], ◌∷◌, ◌++◌, length, drop, refl, sym, ◌∙◌, ap, subst}
use Rattle.block_disk.specs.Device.{Image}
use Rattle.block_disk.specs.Memory.{Stop, Wrote, Synced, moment_after}
use Rattle.disk_deferred.specs.Deferred.{Deferred, deferred_device, onto, stop_of}
use Rattle.disk_deferred.specs.Host.{HaveMet, Host}
use Rattle.disk_deferred.specs.Joined.{AllFit, joined}
use Rattle.disk_deferred.specs.Syncs.{LeftAt, moments_of, syncs_in}
use Rattle.disk_deferred.specs.declared.call.DeviceCall.{DeviceCall}
use Rattle.disk_deferred.specs.declared.call.DeviceCall.TheVariants.{Write, Sync}
use Rattle.disk_deferred.proofs.Moments.{left_in}
use Rattle.disk_deferred.proofs.Onto.{drop_onto, onto_append}
use Rattle.law_journaled.proofs.Joined.{fits_before, image_wrote, left_before_sync}

-- the host when it had made these calls, and the next ones were left
abbrev pub host_before : Host → (older : List Stop) → (next : List DeviceCall) → Host
host_before c older next = record { made = older; left = next ++ c.left; ring = c.ring }

-- What a crash left then of the host's device, one of the disk might have left at the last moment with as many syncs.
left_before : (d : Deferred) (c : Host) → HaveMet d c → AllFit (length d.memory.first) c.made → (older : List Stop) (next : List DeviceCall) → onto older next ≡ c.made
    → (image : List ℕ) → Image (moment_after d.memory.first older) image → LeftAt (suc (syncs_in older)) (moments_of (deferred_device d)) image
left_before d c met fits older [] is image left =
    subst (λ (made : List Stop). LeftAt (suc (syncs_in made)) (moments_of (deferred_device d)) image) (sym is)
    (met.synced [] c.left image refl (subst (λ (made : List Stop). Image (moment_after d.memory.first made) image) is left))
left_before d c met fits older (Write at bytes ∷ next) is image left =
    let now : AllFit (length d.memory.first) (Wrote at bytes.items ∷ older) =
    fits_before (length d.memory.first) (Wrote at bytes.items ∷ older) next (subst (λ (made : List Stop). AllFit (length d.memory.first) made) (sym is) fits) in
    left_before d c met fits (Wrote at bytes.items ∷ older) next is image (image_wrote d.memory.first at bytes.items older image now left)
left_before d c met fits older (Sync ∷ next) is image left =
    let first = d.memory.first in
    let now : AllFit (length first) (Synced ∷ older) = fits_before (length first) (Synced ∷ older) next (subst (λ (made : List Stop). AllFit (length first) made) (sym is) fits) in
    let calls = next ++ c.left ++ met.later in
    let all : joined d.memory.stops ≡ onto (Synced ∷ older) calls =
    met.order ∙ ap (λ (s : List Stop). onto (onto s c.left) met.later) (sym is) ∙ ap (λ (s : List Stop). onto s met.later) (sym (onto_append (Synced ∷ older) next c.left))
    ∙ sym (onto_append (Synced ∷ older) (next ++ c.left) met.later) in
    let at_sync : drop (length calls) (joined d.memory.stops) ≡ Synced ∷ older = ap (drop (length calls)) all ∙ drop_onto (Synced ∷ older) calls in
    (left_before_sync first d.memory.stops (length calls) older image at_sync now.1 left).1

-- with some of the next calls made
left_with : (d : Deferred) (c : Host) → HaveMet d c → AllFit (length d.memory.first) c.made → (older : List Stop) (next : List DeviceCall) → onto older next ≡ c.made
    → (these more : List DeviceCall) (image : List ℕ) → next ++ c.left ≡ these ++ more → Image (moment_after d.memory.first (onto older these)) image
    → LeftAt (suc (syncs_in (onto older these))) (moments_of (deferred_device d)) image
left_with d c met fits older [] is these more image split left =
    subst (λ (made : List Stop). LeftAt (suc (syncs_in (onto made these))) (moments_of (deferred_device d)) image) (sym is)
    (met.synced these more image split (subst (λ (made : List Stop). Image (moment_after d.memory.first (onto made these)) image) is left))
left_with d c met fits older (call ∷ next) is [] more image split left = left_before d c met fits older (call ∷ next) is image left
left_with d c met fits older (call ∷ next) is (one ∷ these) more image split left =
    let both : call ∷ (next ++ c.left) ≡ one ∷ (these ++ more) = split in
    let head : call ≡ one = cc in
    let tail : next ++ c.left ≡ these ++ more = cc in
    left_with d c met fits (stop_of one ∷ older) next (ap (λ (k : DeviceCall). onto (stop_of k ∷ older) next) (sym head) ∙ is) these more image tail left

none_before : (next left : List DeviceCall) → next ++ left ≡ [] → (next ≡ []) × (left ≡ [])
none_before [] left is = (refl, is)
none_before (call ∷ next) left is = absurd (let both : call ∷ (next ++ left) ≡ [] = is in cc)

-- The disk and its host had met then, as they have now.
pub met_before : (d : Deferred) (c : Host) → HaveMet d c → AllFit (length d.memory.first) c.made → (older : List Stop) (next : List DeviceCall) → onto older next ≡ c.made
    → HaveMet d (host_before c older next)
met_before d c met fits older next is = record {
  later = met.later;
  order = met.order ∙ ap (λ (made : List Stop). onto (onto made c.left) met.later) (sym is) ∙ ap (λ (s : List Stop). onto s met.later) (sym (onto_append older next c.left));
  earlier = λ these more image split left. left_in (suc (syncs_in (onto older these))) (moments_of (deferred_device d)) image
      (left_with d c met fits older next is these more image split left);
  synced = left_with d c met fits older next is;
  all = λ none known.
      let both = none_before next c.left none in
      met.all both.1 known ∙ ap (λ (made : List Stop). suc (syncs_in made)) (sym is ∙ ap (onto older) both.0);
}
