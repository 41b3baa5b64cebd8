-- Rings that are heard: the same records, and what the seat has published.
use Rattle.std.proofs.Common.{ℕ, ◌≡◌, ◌<◌, ◌≤◌, List, [], ◌++◌, length, MatchOption, Option, Result, Ok, Err, OnErr, slice_index_or, slice_set, refl, sym, ap, ◌∙◌, subst, inl, inr, arith, if◌then◌else◌, true, false, ◌∷◌, reverse}
use Rattle.std.proofs.lemmas.Bool.Decides.{eqb_tells}
use Rattle.std.proofs.lemmas.List.{append_assoc, reverse-append}
use Rattle.thread_rings.specs.Rings.{Receiving, SameReceiver, known_records, received}
use Rattle.heap_model.specs.declared.record.Record.{Record}
use Rattle.heap_model.specs.Setting.{Setting}
use Rattle.block_disk.specs.Device.{Device}
use Rattle.heap_model.specs.declared.event.Event.{Event}
use Rattle.heap_model.specs.History.{IsLegalHistory}
use Rattle.thread_rings.specs.Following.{from_release, is_release, to_release}
use Rattle.monitor.specs.declared.view.Plan.{Plan}
use Rattle.monitor.specs.Seats.{Helping, Home}
use Rattle.monitor.specs.Views.{GoesOn}
use Rattle.monitor.specs.Words.{setting_of}
use Rattle.heap_model.specs.Past.{Past, applied}
use Rattle.heap_model.specs.declared.store_error.StoreError.{StoreError}
use Rattle.store_rounds.specs.Store as stores
use Rattle.trim_helper.specs.Calls.{AreStuck, HasGoneOn, SettlesUpTo}
use Rattle.trim_helper.specs.Heard.{HasSeen, Hears, SeenLaw}
use Rattle.trim_helper.specs.Hearing.{IsNoted, KeepsRecords}
use Rattle.trim_helper.specs.Helping.{IsHelper}
use Rattle.trim_helper.specs.Parts.{IsServing, Parts}
use Rattle.trim_helper.specs.Rings.{known_of, received_of, waiting_in, held_back, stream}
use Rattle.trim_helper.specs.Seen.{AreHeard, BeginsLog, SeesFrom}
use Rattle.trim_helper.specs.Taken.{IsRefused, trimmed_of}
use Rattle.trim_helper.proofs.RingMoves.{known_at, known_else, known_set, received_at, received_else, received_set, same_refl, same_set, same_then}
use Rattle.trim_helper.proofs.Counting.{count_kept}
use Rattle.trim_helper.proofs.Noting.{count_noted, noted_then, place_noted, taken_noted}
use Rattle.trim_helper.proofs.Rounds.{parts_from}
use Rattle.trim_helper.proofs.Seeing.{all_seen}
use Rattle.image_parts.specs.declared.layout.Layout.{Layout}

-- of three lists, newest first, each goes on from the one before
pub goes_back : {A : Type 0} (later mid earlier : List A) → GoesOn later mid → GoesOn mid earlier → GoesOn later earlier
goes_back later mid earlier a b = (a.0 ++ b.0, a.1 ∙ ap (λ (l : List _). a.0 ++ l) b.1 ∙ sym (append_assoc a.0 b.0 earlier))

pub kept_refl : (cs : List Receiving) → KeepsRecords cs cs
kept_refl cs = record { received = λ l. refl; known = λ l. refl; same = same_refl cs }

pub kept_then : (xs ys zs : List Receiving) → KeepsRecords xs ys → KeepsRecords ys zs → KeepsRecords xs zs
kept_then xs ys zs one two = record { received = λ l. two.received l ∙ one.received l; known = λ l. two.known l ∙ one.known l; same = same_then xs ys zs one.same two.same }

pub kept_set : (cs : List Receiving) (l : ℕ) (c d : Receiving) → l < length cs → SameReceiver (slice_index_or cs l d) c → received c ≡ received (slice_index_or cs l d) → known_records c ≡ known_records (slice_index_or cs l d) → KeepsRecords cs (slice_set cs l c)
kept_set cs l c d lt same taken known = record {
  received = λ m. elim (eqb_tells l m) [
    | inl e ↦ subst (λ k. received_of (slice_set cs l c) k ≡ received_of cs k) e.1 (received_set cs l c lt ∙ taken ∙ sym (received_at cs l d lt))
    | inr e ↦ received_else cs l m c e.1
  ];
  known = λ m. elim (eqb_tells l m) [
    | inl e ↦ subst (λ k. known_of (slice_set cs l c) k ≡ known_of cs k) e.1 (known_set cs l c lt ∙ known ∙ sym (known_at cs l d lt))
    | inr e ↦ known_else cs l m c e.1
  ];
  same = same_set cs l c d lt same;
}

module _ {D : Type 0} (device : D → Device) (y : Parts D) (rings : List Receiving) (seat : Helping) (kept : KeepsRecords y.rings rings) (same : IsNoted y.seat seat) where
  -- what the helper serves it serves still
  pub heard_serves : (s : Setting) (p : Past) → IsServing device y s p → IsServing device (parts_from y.store rings y.waiting y.is_settled seat) s p
  heard_serves s p was = record {
    taken = record { has = was.taken.has; taken = λ l. kept.received l ∙ was.taken.taken l };
    counts = λ l lt. subst (λ (n : ℕ). n ≤ p.cut l) (sym (count_noted y.seat seat l same)) (was.counts l lt);
    places = λ l lt. subst (λ (n : ℕ). n ≤ trimmed_of p l) (sym (place_noted y.seat seat l same)) (was.places l lt);
    running = was.running;
    settled = was.settled;
    trimmed = was.trimmed;
    published = λ is l lt. let both = was.published is l lt in (count_noted y.seat seat l same ∙ both.0, place_noted y.seat seat l same ∙ both.1);
    stand = λ l n lt count. was.stand l n lt (count_kept y.seat seat l n same.notes count);
  }

  heard_stuck : (k : Layout) (t : ℕ) (d : Device) (s : Setting) (p : Past) → AreStuck k t d y.rings y.waiting s p → AreStuck k t d rings y.waiting s p
  heard_stuck k t d s p was = record {
    known = was.known;
    layout = was.layout;
    threads = was.threads;
    has = was.has;
    stuck = λ l lt. subst (λ (known : List Record). MatchOption (waiting_in y.waiting l) (known ≡ []) (λ r. IsRefused was.known s p l r)) (sym (kept.known l)) (was.stuck l (let n = kept.same.count in omega arith));
  }

  still_unpublished : (h : Helping) (answer : Result ℕ StoreError) → OnErr answer (IsNoted h y.seat) → OnErr answer (IsNoted h seat)
  still_unpublished h (Ok n) was = tt
  still_unpublished h (Err e) was = noted_then h y.seat seat was same

  -- and a round that made it is one
  pub rounds_heard : (most : Option ℕ) (s : Setting) (p : Past) (x : Parts D) (answer : Result ℕ StoreError) → SettlesUpTo device most s p x y answer → SettlesUpTo device most s p x (parts_from y.store rings y.waiting y.is_settled seat) answer
  rounds_heard most s p x answer r =
      let w = r.works in
      record {
        works = record {
          newer = w.newer;
          count = w.count;
          most = λ l. let e : length (received_of rings l) ≡ length (received_of y.rings l) = ap (λ (xs : List Record). length xs) (kept.received l) in omega (arith, e, w.most l);
          now = w.now;
          same = w.same;
          cut = w.cut;
          places = w.places;
          ran = w.ran;
          serves = heard_serves s w.now w.serves;
          takes = w.takes;
          settled = w.settled;
          durable = w.durable;
          left = w.left;
          quiet = w.quiet;
          still = w.still;
          failed = w.failed;
          refused = w.refused;
          unsettled = w.unsettled;
          unpublished = still_unpublished x.seat answer w.unpublished;
          cause = w.cause;
        };
        within = r.within;
        stuck = λ runs below. heard_stuck x.store.known.layout x.store.known.threads (device x.store.disk) s _ (r.stuck runs below);
      }

-- all rings were heard
pub heard_by : {D : Type 0} (home : Home) (was : Parts D) (rings : List Receiving) (seat : Helping) → IsHelper home seat → IsNoted was.seat seat → GoesOn seat.view.history was.seat.view.history → IsLegalHistory (setting_of home.plan) seat.view.history →
    SeesFrom seat 0 rings → AreHeard (length rings) rings → KeepsRecords was.rings rings → Hears home was (parts_from was.store rings was.waiting was.is_settled seat)
heard_by home was rings seat of noted goes legal sees heard kept = record {
  seen = record {
    legal = legal;
    logs = λ l lt. subst (λ (p : Plan). BeginsLog p l seat.view.history (to_release (received_of rings l))) of.of.1
        (subst (λ (n : ℕ). BeginsLog seat.view.plan n seat.view.history (to_release (received_of rings l))) (omega arith) (all_seen seat 0 rings sees heard l lt));
  };
  goes_on = goes;
  seat = of;
  noted = noted;
  records = kept;
  store = refl;
  waiting = refl;
  settled = refl;
}

-- The helper has heard its rings: `z` is what it was behind the drain, and `y` what it is.
module _ {D : Type 0} (device : D → Device) (home : Home) (z y : Parts D) (hears : Hears home z y) where
  -- but for its rings and its seat, it is as it was
  pub heard_parts : parts_from z.store y.rings z.waiting z.is_settled y.seat ≡ y
  heard_parts = λ i. record { store = sym hears.store i; rings = y.rings; waiting = sym hears.waiting i; is_settled = sym hears.settled i; seat = y.seat }

  pub drained_parts : z ≡ parts_from y.store z.rings y.waiting y.is_settled z.seat
  drained_parts = λ i. record { store = sym hears.store i; rings = z.rings; waiting = sym hears.waiting i; is_settled = sym hears.settled i; seat = z.seat }

  pub round_heard : (most : Option ℕ) (s : Setting) (p : Past) (x : Parts D) (answer : Result ℕ StoreError) → SettlesUpTo device most s p x z answer → SettlesUpTo device most s p x y answer
  round_heard most s p x answer r = subst (λ (k : Parts D). SettlesUpTo device most s p x k answer) heard_parts (rounds_heard device z y.rings y.seat hears.records hears.noted most s p x answer r)

  pub goes_on_heard : (x : Parts D) → HasGoneOn home x z → HasGoneOn home x y
  goes_on_heard x on = record {
    seat = hears.seat;
    taken = taken_noted z.seat y.seat hears.noted ∙ on.taken;
    rings = same_then x.rings z.rings y.rings on.rings hears.records.same;
    layout = ap (λ (k : stores.Parts D). k.known.layout) hears.store ∙ on.layout;
    threads = ap (λ (k : stores.Parts D). k.known.threads) hears.store ∙ on.threads;
  }

-- what was seen is seen still, of the same rings
pub seen_still : {D : Type 0} (home : Home) (x y : Parts D) → y.rings ≡ x.rings → y.seat.view.history ≡ x.seat.view.history → HasSeen home x → HasSeen home y
seen_still home x y rings history seen = record {
  legal = subst (λ (h : List (ℕ × Event)). IsLegalHistory (setting_of home.plan) h) (sym history) seen.legal;
  logs = λ l lt. subst (λ (h : List (ℕ × Event)). BeginsLog home.plan l h (to_release (received_of y.rings l))) (sym history)
      (subst (λ (r : List Receiving). BeginsLog home.plan l x.seat.view.history (to_release (received_of r l))) (sym rings) (seen.logs l (subst (λ (r : List Receiving). l < length r) rings lt)));
}

-- a log up to its last release, and that of a longer one

of_release : (log : List Record) → (newer : List Record) × (log ≡ newer ++ from_release log)
of_release [] = ([], refl)
of_release (r ∷ log) = let rest = of_release log in elim (is_release r) as (λ b. (newer : List Record) × (r ∷ log ≡ newer ++ (if b then r ∷ log else from_release log))) [
  | true ↦ ([], refl)
  | false ↦ (r ∷ rest.0, ap (λ (l : List Record). r ∷ l) rest.1)
]

from_longer : (newer log : List Record) → (more : List Record) × (from_release (newer ++ log) ≡ more ++ from_release log)
from_longer [] log = ([], refl)
from_longer (r ∷ newer) log = let rest = from_longer newer log in let all = of_release log in elim (is_release r) as (λ b. (more : List Record) × ((if b then r ∷ newer ++ log else from_release (newer ++ log)) ≡ more ++ from_release log)) [
  | true ↦ (r ∷ newer ++ all.0, ap (λ (l : List Record). r ∷ newer ++ l) all.1 ∙ sym (append_assoc (r ∷ newer) all.0 (from_release log)))
  | false ↦ rest
]

pub to_longer : (log later : List Record) → (more : List Record) × (to_release (log ++ later) ≡ to_release log ++ more)
to_longer log later = let longer = from_longer (reverse later) (reverse log) in (
  reverse longer.0,
  ap (λ (l : List Record). reverse (from_release l)) (reverse-append log later) ∙ ap (λ (l : List Record). reverse l) longer.1 ∙ reverse-append longer.0 (from_release (reverse log)),
)

-- what was applied is what was taken, but for one
pub seen_applied : {D : Type 0} (device : D → Device) → SeenLaw device
seen_applied device h s p y seen serving l lt =
    let more = to_longer (stream l (applied p)) (held_back (waiting_in y.waiting l)) in
    let logs = seen.logs l lt in (
      more.0 ++ logs.0,
      logs.1 ∙ ap (λ (log : List Record). to_release log ++ logs.0) (serving.taken.taken l) ∙ ap (λ (log : List Record). log ++ logs.0) more.1 ∙ append_assoc (to_release (stream l (applied p))) more.0 logs.0,
    )
