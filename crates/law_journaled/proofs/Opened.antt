-- The first bytes of a disk that goes on from an opening.
use Rattle.std.proofs.Common.{◌≡◌, ℕ, List, [], ◌∷◌, ◌++◌, length, take, refl, sym, ◌∙◌, ap, subst}
use Rattle.block_disk.specs.Device.{Device, Moment}
use Rattle.block_disk.specs.Images.{Continues}
use Rattle.block_disk.specs.Memory.{Stop, WriteFailed, Wrote, Synced, SyncFailed, moment_after, moments_before}
use Rattle.disk_deferred.specs.Deferred.{Deferred}
use Rattle.disk_deferred.specs.Syncs.{moments_of}
use Rattle.host_heap.specs.Hosting.{hosted_device}
use Rattle.law_journaled.specs.Given.{WasGiven}
use Rattle.law_journaled.specs.Steps.{GivenOpenedLaw}
use Rattle.law_journaled.proofs.Steps.{given_at}

-- what the first of these moments, the last in the list, reads
abbrev bytes_at_first : List Moment → List ℕ
bytes_at_first [] = []
bytes_at_first (m ∷ []) = m.bytes
bytes_at_first (m ∷ n ∷ before) = bytes_at_first (n ∷ before)

-- later moments don't change it
first_after : (since : List Moment) (m : Moment) (before : List Moment) → bytes_at_first (since ++ m ∷ before) ≡ bytes_at_first (m ∷ before)
first_after [] m before = refl
first_after (n ∷ []) m before = refl
first_after (n ∷ o ∷ since) m before = first_after (o ∷ since) m before

first_before : (first : List ℕ) (stops : List Stop) → bytes_at_first (moment_after first stops ∷ moments_before first stops) ≡ first
first_before first [] = refl
first_before first (Wrote at bytes ∷ older) = first_before first older
first_before first (WriteFailed at len ∷ older) = first_before first older
first_before first (Synced ∷ older) = first_before first older
first_before first (SyncFailed ∷ older) = first_before first older

goes_on_first : (old new : Device) → Continues old new → bytes_at_first (moments_of new) ≡ bytes_at_first (moments_of old)
goes_on_first old new on = ap bytes_at_first on.moments ∙ first_after on.since old.now old.past

pub opened_on : GivenOpenedLaw
opened_on whole bytes j versions threads ring x report d opened reads found on =
    let study = found.recovery.study in
    let grows = (found.any_moment study found.recovery.of).grows in
    let begun : bytes_at_first (moments_of (hosted_device found.found.disk)) ≡ bytes = goes_on_first _ (hosted_device found.found.disk) grows in
    let disk : bytes_at_first (moments_of (hosted_device x.helper.store.disk)) ≡ bytes = ap (λ (e : Deferred). bytes_at_first (moments_of (hosted_device e))) found.begun.disk_is ∙ begun in
    let first : d.memory.first ≡ bytes = sym (first_before d.memory.first d.memory.stops) ∙ goes_on_first (hosted_device x.helper.store.disk) (hosted_device d) on ∙ disk in
    let none : j.heap.now.pending ≡ [] = ap (λ (h : Device). h.now.pending) opened.heap in
    let past : j.base ≡ length j.heap.past = opened.new.base ∙ sym (ap (λ (h : Device). length h.past) opened.heap) in
    let front : take (length bytes) j.heap.now.bytes ≡ bytes = ap (λ (h : Device). take (length bytes) h.now.bytes) opened.heap ∙ reads in
    subst (λ (bytes : List ℕ). WasGiven bytes [] [] j.heap j.base) (sym first) (given_at bytes [] j.heap j.base none past front tt)
