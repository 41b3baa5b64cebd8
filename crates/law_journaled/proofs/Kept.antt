-- What a crash of the device below a journal keeps of a hosted heap.
use Rattle.std.proofs.Common.{◌≡◌, inl, inr, ℕ, ◌+◌, ◌≤◌, List, [], ◌∷◌, length, refl, sym, ◌∙◌, ap, subst, arith}
use Rattle.block_disk.specs.Device.{Image}
use Rattle.block_disk.specs.Memory.{Stop, moment_after}
use Rattle.block_disk.proofs.Ranges.{outside_none}
use Rattle.disk_deferred.specs.Deferred.{Deferred, onto, stop_of}
use Rattle.disk_deferred.specs.declared.call.DeviceCall.{DeviceCall}
use Rattle.host_heap.specs.Hosting.{hosted_device}
use Rattle.host_journal.specs.Hosted.{Hosted}
use Rattle.law_hosted.specs.Running.{HostClosingLaw, HostRoundLaw, HostRunLaw}
use Rattle.law_hosted.specs.Safe.{AcknowledgedLaw, BegunLaw, ClosedLaw, HostLaw, OpeningLaw}
use Rattle.law_journaled.specs.Kept.{JournalAcknowledgedLaw, JournalBegunLaw, JournalClosedLaw, JournalClosingLaw, JournalOpeningLaw, JournalRoundLaw, JournalRunLaw, JournalSafeLaw}
use Rattle.law_journaled.specs.Left.{LeftOnceMade}
use Rattle.law_journaled.proofs.Left.{Possible, holds_disk, holds_since, leaves_by, syncs_once}

pub safe_on : HostLaw → (j : Hosted) → Possible j → JournalSafeLaw j
safe_on host j possible l t s p old d run = holds_since j possible old d _ (λ c image since. host l t s p old d c image run since)

pub begun_on : BegunLaw → (j : Hosted) → Possible j → JournalBegunLaw j
begun_on host j possible schema threads r x q d begun ran =
    holds_since j possible (hosted_device r.disk) d _ (λ c image since. host schema threads r x q d c image begun ran since)

pub run_on : HostRunLaw → (j : Hosted) → Possible j → JournalRunLaw j
run_on runs j possible h p old y seen on = holds_since j possible old y.store.disk _ (λ c image since. runs h p old y seen c image on since)

pub round_on : HostRoundLaw → (j : Hosted) → Possible j → JournalRoundLaw j
round_on rounds j possible x y answer p old ran makes heard =
    holds_since j possible old y.helper.store.disk _ (λ c image since. rounds x y answer p old c image ran makes heard since)

pub closing_on : HostClosingLaw → (j : Hosted) → Possible j → JournalClosingLaw j
closing_on closings j possible h x p old d lanes run serves closing =
    holds_since j possible old d _ (λ c image since. closings h x p old d c image lanes run serves closing since)

pub acknowledged_on : AcknowledgedLaw → (j : Hosted) → Possible j → JournalAcknowledgedLaw j
acknowledged_on host j possible x y p d c synced same met made serving run over all =
    holds_disk j d c synced over possible _
    (λ image once.
    let more = syncs_once synced c.made d image once in
    host x y same met made p d once.host image serving run (record { by = leaves_by synced c.made d image once; made = omega (arith, all, more) }))

length_onto : (older : List Stop) (calls : List DeviceCall) → length (onto older calls) ≡ length calls + length older
length_onto older [] = omega arith
length_onto older (call ∷ calls) = omega (arith, length_onto (stop_of call ∷ older) calls)

none_more : (older : List Stop) (calls : List DeviceCall) → length (onto older calls) ≤ length older → onto older calls ≡ older
none_more older [] few = refl
none_more older (call ∷ calls) few = absurd (let all = length_onto (stop_of call ∷ older) calls in omega (arith, all, few))

-- where the last sync came after all calls that the host has made, a crash is of that moment
made_all : (made : List Stop) (d : Deferred) (image : List ℕ) → (once : LeftOnceMade made made d image) → once.host.made ≡ made
made_all made d image once =
    let all = length_onto made once.since in
    let rest = length_onto once.host.made once.next in
    let these = ap length once.after in
    let those = ap length once.before in
    sym (once.before ∙ none_more once.host.made once.next (omega (arith, all, rest, these, those)))

pub closed_on : ClosedLaw → (j : Hosted) → Possible j → JournalClosedLaw j
closed_on host j possible h x d c closing over made =
    holds_disk j d c c.made over possible _
    (λ image once.
    host h x d c image closing over.met made
    (subst (λ (calls : List Stop). Image (moment_after d.memory.first calls) image) (made_all c.made d image once) once.leaves))

pub opening_on : OpeningLaw → (j : Hosted) → Possible j → JournalOpeningLaw j
opening_on host j possible versions threads ring bytes x report s c synced found of over =
    holds_disk j x.helper.store.disk c synced over possible _
    (λ image once. elim (host versions threads ring bytes x report s once.host image found of (leaves_by synced c.made x.helper.store.disk image once)) [
      | inl same ↦ inl (outside_none bytes image same)
      | inr way ↦ inr way
    ])
