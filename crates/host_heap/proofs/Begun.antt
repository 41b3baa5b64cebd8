-- A round of the heap that isn't begun, or is.
use Rattle.std.proofs.Common.{ℕ, ◌≡◌, ◌<◌, ◌+◌, ◌↔◌, Bool, true, false, Option, Result, Ok, Err, length, refl, sym, ap, ◌∙◌, subst}
use Rattle.disk_deferred.specs.Host.{HasLooked, Host}
use Rattle.disk_deferred.specs.declared.disk.TheConstants.{SYNCS}
use Rattle.monitor.specs.Seats.{Home}
use Rattle.monitor.specs.Views.{GoesOn}
use Rattle.rtrb.specs.Ring.{known_items}
use Rattle.thread_steps.specs.Views.{plan}
use Rattle.disk_deferred.specs.Deferred.{Deferred}
use Rattle.heap_model.specs.declared.store_error.StoreError.{StoreError}
use Rattle.trim_helper.specs.Calls.{HasGoneOn, RoundsUpTo, SharesUpTo}
use Rattle.trim_helper.specs.Heard.{HasSeen}
use Rattle.trim_helper.specs.Parts.{IsServing, Parts}
use Rattle.host_heap.specs.Hosting.{Hosting, SameHeap, hosted_device}
use Rattle.host_heap.specs.Rounds.{HasRound, HearsThreads, KeepsSessions, MakesRoundUpTo}
use Rattle.host_heap.specs.declared.error.RoundError.TheVariants.{CallsLeft, Store}
use Rattle.host_heap.specs.declared.room.TheConstants.{ROUND_SYNCS}

-- there is no room for its syncs
abbrev pub HasNoRoom : Hosting → Type 0
HasNoRoom x = SYNCS < length (known_items x.calls.ring) + ROUND_SYNCS

pub not_begun : (most : Option ℕ) (x y : Hosting) (room : Bool) → room ≡ false → (room ≡ false) ↔ HasNoRoom y → SameHeap x y → HasLooked x.calls y.calls → HasRound most x y (Err CallsLeft)
not_begun most x y room none tells same looked = record {
  calls_left = (λ is. tells.0 none, λ low. refl);
  nothing = λ is. same;
  rounds = tt;
  shares = tt;
  heard = tt;
  kept = record { home = same.home; unused = same.unused; out = same.out; stop = same.stop; layout = ap (λ (h : Parts Deferred). h.store.known.layout) same.helper; threads = ap (λ (h : Parts Deferred). h.store.known.threads) same.helper };
  calls = looked;
}

module _ (most : Option ℕ) (x z w : Hosting) (room : Bool) (some : room ≡ true) (tells : (room ≡ false) ↔ HasNoRoom z) (same : SameHeap x z) (looked : HasLooked x.calls z.calls) (calls : w.calls ≡ z.calls) (kept : KeepsSessions z w) (heard : HearsThreads z w) where
  has_room : {T : Type 0} → HasNoRoom w → T
  has_room low = absurd (let no : true ≡ false = sym some ∙ tells.1 (subst (λ (c : Host). SYNCS < length (known_items c.ring) + ROUND_SYNCS) calls low) in cc)

  served : (answer : Result ℕ StoreError) → MakesRoundUpTo most z w answer → MakesRoundUpTo most x w answer
  served answer serves p serving =
      subst (λ (h : Home). RoundsUpTo hosted_device most (plan h) p x.helper w.helper answer) same.home
      (subst (λ (k : Parts Deferred). RoundsUpTo hosted_device most (plan z.home) p k w.helper answer) same.helper
      (serves p (subst (λ (h : Home). IsServing hosted_device z.helper (plan h) p) (sym same.home) (subst (λ (k : Parts Deferred). IsServing hosted_device k (plan x.home) p) (sym same.helper) serving))))

  shared : (answer : Result ℕ StoreError) → SharesUpTo hosted_device most z.helper w.helper answer → SharesUpTo hosted_device most x.helper w.helper answer
  shared answer shares = subst (λ (k : Parts Deferred). SharesUpTo hosted_device most k w.helper answer) same.helper shares

  keeps : KeepsSessions x w
  keeps = record {
    home = kept.home ∙ same.home;
    unused = kept.unused ∙ same.unused;
    out = kept.out ∙ same.out;
    stop = kept.stop ∙ same.stop;
    layout = kept.layout ∙ ap (λ (h : Parts Deferred). h.store.known.layout) same.helper;
    threads = kept.threads ∙ ap (λ (h : Parts Deferred). h.store.known.threads) same.helper;
  }

  hears : HearsThreads x w
  hears = record {
    goes_on = subst (λ (h : Home). HasGoneOn h x.helper w.helper) same.home (subst (λ (k : Parts Deferred). HasGoneOn z.home k w.helper) same.helper heard.goes_on);
    seen = λ runs. subst (λ (h : Home). HasSeen h w.helper) same.home (heard.seen (ap (λ (k : Parts Deferred). k.store.known.has_failed) same.helper ∙ runs));
    later = subst (λ (k : Parts Deferred). GoesOn w.helper.seat.view.history k.seat.view.history) same.helper heard.later;
  }

  looks : HasLooked x.calls w.calls
  looks = subst (λ (c : Host). HasLooked x.calls c) (sym calls) looked

  pub begun_ok : (n : ℕ) → MakesRoundUpTo most z w (Ok n) → SharesUpTo hosted_device most z.helper w.helper (Ok n) → HasRound most x w (Ok n)
  begun_ok n serves shares = record { calls_left = (λ is. absurd cc, λ low. has_room low); nothing = λ is. absurd cc; rounds = served (Ok n) serves; shares = shared (Ok n) shares; heard = hears; kept = keeps; calls = looks }

  pub begun_err : (e : StoreError) → MakesRoundUpTo most z w (Err e) → SharesUpTo hosted_device most z.helper w.helper (Err e) → HasRound most x w (Err (Store e))
  begun_err e serves shares = record { calls_left = (λ is. absurd cc, λ low. has_room low); nothing = λ is. absurd cc; rounds = served (Err e) serves; shares = shared (Err e) shares; heard = hears; kept = keeps; calls = looks }
