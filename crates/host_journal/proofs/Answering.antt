-- What orders and syncs answer.
use Rattle.std.proofs.Common.{◌≡◌, ◌⊎◌, inl, inr, ℕ, suc, ◌+◌, ◌-◌, ◌^◌, ◌<◌, ◌≤◌, List, [], ◌∷◌, length, min, Ok, Err, refl, sym, ◌∙◌, ap, subst, arith}
use Rattle.block_disk.specs.Device.{Device, LeftSince}
use Rattle.block_disk.specs.Memory.{Stop, Synced}
use Rattle.block_disk.specs.Traced.{Traced, and_synced}
use Rattle.block_disk.specs.declared.error.Fault.{Fault}
use Rattle.atomic_sectors.specs.Left.{AlwaysWhole, LeavesWhole, MakesSyncs}
use Rattle.atomic_sectors.proofs.Calculus.{leaves_begin, leaves_weaker}
use Rattle.journal_batches.specs.declared.areas.Areas.{Areas}
use Rattle.journal_batches.specs.Shown.{shown}
use Rattle.journal_batches.specs.Spelled.{pages_for}
use Rattle.disk_deferred.specs.Host.{Host}
use Rattle.disk_deferred.specs.Joined.{at_sync}
use Rattle.disk_journal.specs.Disks.{FitsBatch}
use Rattle.host_journal.specs.Calls.{HasOrdered, HasSynced}
use Rattle.host_journal.specs.Hosted.{IsOldOrNew, StandsFor}
use Rattle.host_journal.specs.Gathered.{FitsAll, IsHosted, view_of}
use Rattle.host_journal.specs.Taken.{Gathers, Turns}
use Rattle.host_journal.specs.declared.gathering.Gathering.{Gathering}
use Rattle.host_journal.proofs.Hosting.{all_fit, durable_now, hosted_kept, idle_both, idle_now, idle_turns, image_now, leaves_both, leaves_on, one_batch}
use Rattle.host_journal.proofs.Turning.{reads_now, stands_for}

-- An order that fails.
pub order_failed : (old new : Gathering) (t : Traced) (marks : List Stop) (calls : Host) (why : Fault) → IsHosted old t marks → Gathers old new
    → HasOrdered (view_of old t marks calls) (view_of new t marks calls) (Err why)
order_failed old new t marks calls why hosted g = record {
  ok = tt;
  err = refl;
  left = g.left t.device (length (at_sync marks)) hosted.gathers;
  image = tt;
  no_call = λ fits. (g.below fits).disk;
  waits = g.same_words;
  words = g.words;
  turns = g.same_turns;
  base = refl;
  areas = g.areas;
  calls = refl;
}

-- An order that is made.
pub order_made : (old new : Gathering) (t next : Traced) (marks later : List Stop) (calls : Host) → IsHosted old t marks → Gathers old new → new.group.items ≡ []
    → next ≡ and_synced t → at_sync later ≡ at_sync marks → HasOrdered (view_of old t marks calls) (view_of new next later calls) (Ok tt)
order_made old new t next marks later calls hosted g none is same = record {
  ok = λ i. (is i).device;
  err = tt;
  left = leaves_on old new t next marks g.left is hosted;
  image = image_now new t marks none (hosted_kept old new t marks g.keeps hosted) ∙ (λ i. (sym is i).device.now.bytes);
  no_call = λ fits. (g.below fits).disk;
  waits = g.same_words;
  words = g.words;
  turns = g.same_turns;
  base = ap length same;
  areas = g.areas;
  calls = refl;
}

-- Where all fits into one batch, a crash leaves all, or nothing.
whole_turn : (old mid new : Gathering) (t : Traced) (marks : List Stop) (calls : Host) → IsHosted old t marks → Gathers old mid → mid.group.items ≡ [] → Turns mid new
    → FitsAll old → LeavesWhole old.disk.disk new.disk.disk (StandsFor old.disk.areas (IsOldOrNew (view_of old t marks calls)))
whole_turn old mid new t marks calls hosted g none turns fits =
    let kept = hosted_kept old mid t marks g.keeps hosted in
    let before = mid.disk.disk.now.bytes in
    let P = StandsFor mid.disk.areas (LeftSince (length (at_sync marks)) t.device) in
    let was : StandsFor mid.disk.areas (LeftSince (length (at_sync marks)) t.device) before = reads_now mid.disk.disk P kept.gathers.crash in
    let below = g.below fits in
    let Q = IsOldOrNew (view_of old t marks calls) in
    let both = λ (image : List ℕ) (e : (image ≡ shown mid.disk.areas before) ⊎ (image ≡ mid.disk.device.now.bytes)).
    either old mid t marks calls image (λ i. shown (below.areas i) (below.disk i).now.bytes) (image_now mid t marks none kept) e in
    subst (λ (d : Device). LeavesWhole d new.disk.disk (StandsFor old.disk.areas Q)) below.disk
    (subst (λ (a : Areas). LeavesWhole mid.disk.disk new.disk.disk (StandsFor a Q)) below.areas
    (leaves_weaker
    (λ left s.
    stands_for mid.disk.areas before (λ image. (image ≡ shown mid.disk.areas before) ⊎ (image ≡ mid.disk.device.now.bytes)) Q left was.label both s)
    (turns.whole (all_fit mid t marks old kept (g.same_words fits) g.areas fits))))
  where
    either : (old mid : Gathering) (t : Traced) (marks : List Stop) (calls : Host) (image : List ℕ)
        → shown mid.disk.areas mid.disk.disk.now.bytes ≡ shown old.disk.areas old.disk.disk.now.bytes → mid.disk.device.now.bytes ≡ t.device.now.bytes
        → (image ≡ shown mid.disk.areas mid.disk.disk.now.bytes) ⊎ (image ≡ mid.disk.device.now.bytes) → IsOldOrNew (view_of old t marks calls) image
    either old mid t marks calls image same now (inl first) = inl (first ∙ same)
    either old mid t marks calls image same now (inr then) = inr (then ∙ now)

-- A sync for which the journal can't take what was written.
pub sync_untaken : (old new : Gathering) (t : Traced) (marks : List Stop) (calls : Host) (why : Fault) → IsHosted old t marks → Gathers old new
    → HasSynced (view_of old t marks calls) (view_of new t marks calls) (Err why)
sync_untaken old new t marks calls why hosted g = record {
  ok = tt;
  err = refl;
  left = g.left t.device (length (at_sync marks)) hosted.gathers;
  whole = λ fits.
      subst (λ (d : Device). LeavesWhole old.disk.disk d (StandsFor old.disk.areas (IsOldOrNew (view_of old t marks calls)))) (sym (g.below fits).disk) leaves_begin;
  image = tt;
  base = tt;
  durable = tt;
  base_err = refl;
  one_flush = λ fits some. tt;
  no_flush = λ none. (g.idle (idle_now old hosted.gathers.counted none)).disk;
  words = tt;
  words_err = g.words;
  turns = λ fits some. tt;
  turns_none = λ none. g.idle_turns (idle_now old hosted.gathers.counted none);
  turns_err = g.same_turns;
  areas = g.areas;
  calls = refl;
}

-- A sync whose turn fails.
pub sync_failed : (old mid new : Gathering) (t : Traced) (marks : List Stop) (calls : Host) (why : Fault) → IsHosted old t marks → Gathers old mid
    → mid.group.items ≡ [] → Turns mid new → new.turns ≡ mid.turns → HasSynced (view_of old t marks calls) (view_of new t marks calls) (Err why)
sync_failed old mid new t marks calls why hosted g none turns same =
    let kept = hosted_kept old mid t marks g.keeps hosted in
    record {
      ok = tt;
      err = refl;
      left = leaves_both old mid new g.keeps g.areas g.left turns.left t.device (length (at_sync marks)) hosted.gathers;
      whole = whole_turn old mid new t marks calls hosted g none turns;
      image = tt;
      base = tt;
      durable = tt;
      base_err = refl;
      one_flush = λ fits some. tt;
      no_flush = idle_both old mid new hosted.gathers.counted kept.gathers.counted g.words g.idle turns.idle;
      words = tt;
      words_err = omega (arith, turns.words, g.words);
      turns = λ fits some. tt;
      turns_none = λ none. same ∙ g.idle_turns (idle_now old hosted.gathers.counted none);
      turns_err = λ fits. same ∙ g.same_turns fits;
      areas = turns.areas ∙ g.areas;
      calls = refl;
    }

-- A sync that is made.
pub sync_made : (old mid new : Gathering) (t next : Traced) (marks later : List Stop) (calls : Host) → IsHosted old t marks → Gathers old mid
    → mid.group.items ≡ [] → Turns mid new → new.group.items ≡ [] → new.taken ≡ 0 → new.words ≡ 0 → next ≡ and_synced t → later ≡ Synced ∷ marks
    → (0 < mid.taken → FitsBatch mid.disk → MakesSyncs 1 mid.disk.disk new.disk.disk)
    → (0 < mid.taken → pages_for mid.taken ≤ mid.disk.areas.half → new.turns ≡ min (mid.turns + 1) (2 ^ 64 - 1))
    → HasSynced (view_of old t marks calls) (view_of new next later calls) (Ok tt)
sync_made old mid new t next marks later calls hosted g none turns none_new taken words is same one counted =
    let kept = hosted_kept old mid t marks g.keeps hosted in
    let both = hosted_kept mid new t marks turns.keeps kept in
    let count = hosted.count in
    let batch = λ (fits : FitsAll old) (some : 0 < old.words). one_batch mid t marks old none kept (g.same_words fits) g.areas fits some in
    record {
      ok = λ i. (is i).device;
      err = tt;
      left = leaves_on old new t next marks (leaves_both old mid new g.keeps g.areas g.left turns.left) is hosted;
      whole = whole_turn old mid new t marks calls hosted g none turns;
      image = image_now new t marks none_new both ∙ (λ i. (sym is i).device.now.bytes);
      base = ap (λ ms. length (at_sync ms)) same ∙ ap suc count ∙ (λ i. length (sym is i).device.past);
      durable = subst (λ (past : Traced). AlwaysWhole new.disk.disk (StandsFor new.disk.areas (λ image. image ≡ past.device.now.bytes))) (sym is)
          (durable_now new t marks none_new taken both);
      base_err = tt;
      one_flush = λ fits some.
          subst (λ (d : Device). MakesSyncs 1 d new.disk.disk) (g.below fits).disk (one (batch fits some).0 (batch fits some).1);
      no_flush = idle_both old mid new hosted.gathers.counted kept.gathers.counted g.words g.idle turns.idle;
      words = words;
      words_err = tt;
      turns = λ fits some. counted (batch fits some).0 (batch fits some).2 ∙ ap (λ n. min (n + 1) (2 ^ 64 - 1)) (g.same_turns fits);
      turns_none = λ none. idle_turns old mid new hosted.gathers.counted kept.gathers.counted g.words g.idle_turns turns.idle none;
      turns_err = λ fits. tt;
      areas = turns.areas ∙ g.areas;
      calls = refl;
    }
