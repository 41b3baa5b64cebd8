-- What a store's own steps leave of a device, once all that is acknowledged was trimmed.
use Rattle.std.proofs.Common.{ℕ, ◌≡◌, ◌<◌, ◌≤◌, ◌==◌, if◌then◌else◌, Bool, true, false, List, [], ◌∷◌, ◌++◌, length, reverse, refl, sym, ap, ◌∙◌, subst, inl, inr, arith}
use Rattle.std.proofs.lemmas.Bool.{le-ltb}
use Rattle.std.proofs.lemmas.List.{append-nil, length-reverse}
use Rattle.heap_model.specs.declared.record.Record.{Record}
use Rattle.heap_model.specs.declared.record.Record.TheVariants.{Acq, Rel, WaitRel, Put}
use Rattle.heap_model.specs.declared.record.UndoRecord.{UndoRecord}
use Rattle.heap_model.specs.Base.{records_since}
use Rattle.heap_model.specs.Cuts.{is_counted}
use Rattle.heap_model.specs.Log.{lane, IsLegal, IsOfLanes}
use Rattle.heap_model.specs.Record.{undo_of}
use Rattle.heap_model.specs.Sections.{actions, ended}
use Rattle.heap_model.specs.Setting.{Setting}
use Rattle.law_cuts.proofs.Next.{legal_before}
use Rattle.law_cuts.proofs.Unlogged.{first_kept}
use Rattle.block_disk.specs.Device.{Device}
use Rattle.image_parts.specs.declared.layout.Layout.{Layout}
use Rattle.undo_log.specs.Area.{HasRecords}
use Rattle.undo_log.specs.Dropped.{records_in, undo_logs}
use Rattle.undo_log.specs.OldValues.{HasOld, IsOld, OldValue}
use Rattle.undo_log.specs.StandsFor.{HasLive, row_of}
use Rattle.undo_log.proofs.Back.{old_cons}
use Rattle.heap_model.specs.Past.{has_store, IsTrimmed, Past}
use Rattle.store_image.specs.Consistent.{HasParts, IsConsistent}
use Rattle.store_image.specs.declared.committed.Committed.{Committed}
use Rattle.store_image.proofs.Places.{ended_undo, live_size}
use Rattle.store_image.proofs.Stands.{empty, none_logged}
use Rattle.store_helper_sections.specs.Going.{from_heap}
use Rattle.store_helper_sections.specs.Image.{HasHeap, kept_by}
use Rattle.store_helper_sections.proofs.Padding.{if_same}
use Rattle.store_round_making.specs.Rounds.{IsRoundOn}

-- a record more leaves a store there
store_more : (f : ℕ) (x : ℕ × Record) (log : List (ℕ × Record)) → has_store f log ≡ true → has_store f (x ∷ log) ≡ true
store_more f (l, Acq o n) log h = h
store_more f (l, Rel o n) log h = h
store_more f (l, WaitRel o n) log h = h
store_more f (l, Put g v w) log h = elim (g.0 == f) as (λ b. (if b then true else has_store f log) ≡ true) [ true ↦ refl | false ↦ h ]

-- a store beyond the cut is one since
module _ (cut : ℕ → ℕ) (o f : ℕ) where
  now_since : (l m : ℕ) (r : Record) (older : List (ℕ × Record)) (k : OldValue) → m ≡ l → IsOld o f (undo_logs older l) (undo_of r) k → cut l < k.section → has_store f (records_since cut ((m, r) ∷ older)) ≡ true
  now_since l m (Acq p n) older k same is out = absurd is
  now_since l m (Rel p n) older k same is out = absurd is
  now_since l m (WaitRel p n) older k same is out = absurd is
  now_since l m (Put g v w) older k same is out =
      let high : cut m ≤ ended (lane m (actions older)) = subst (λ (j : ℕ). cut j ≤ ended (lane j (actions older))) (sym same) (omega (arith, out, is.3, ended_undo older l)) in
      let beyond : is_counted cut m (actions older) ≡ false = le-ltb (ended (lane m (actions older))) (cut m) high in
      ap (λ (b : Bool). has_store f (if b then records_since cut older else (m, Put g v w) ∷ records_since cut older)) beyond ∙ if_same g.0 f true (has_store f (records_since cut older)) is.0

  pub dropped_since : (l : ℕ) (log : List (ℕ × Record)) (k : OldValue) → HasOld o f (undo_logs log l) k → cut l < k.section → has_store f (records_since cut log) ≡ true
  dropped_since l [] k h out = absurd h
  dropped_since l ((m, r) ∷ older) k h out = elim (old_cons o f l m r older k h) [
    | inl now ↦ now_since l m r older k now.0 now.1 out
    | inr before ↦
        let rest : has_store f (records_since cut older) ≡ true = dropped_since l older k before out in
        elim (is_counted cut m (actions older)) as (λ b. has_store f (if b then records_since cut older else (m, r) ∷ records_since cut older) ≡ true) [ true ↦ rest | false ↦ store_more f (m, r) (records_since cut older) rest ]
  ]

module _ (l : Layout) (t : ℕ) (s : Setting) (p : Past) (c : Committed) (d : Device) (consistent : IsConsistent l s p c d) (trimmed : IsTrimmed p) (lanes : IsOfLanes t p.logged) (within : t ≤ l.lanes) where
  legal : IsLegal s p.logged
  legal = legal_before s p.fresh p.logged consistent.past.legal

  base_is : p.base ≡ p.cut
  base_is = λ i lane. trimmed lane i

  abbrev since : List (ℕ × Record)
  since = records_since p.cut p.logged

  -- the helper has no section
  alone : since ++ [] ≡ since
  alone = append-nil since

  starts : (k : ℕ) → k < l.lanes → (row_of c.rows k).start ≡ records_in (p.cut k) (undo_logs p.logged k)
  starts k low = consistent.tells.start k low ∙ ap (λ (n : ℕ). records_in n (undo_logs p.logged k)) (trimmed k)

  live : (image : List ℕ) → HasParts l s p.logged p.base p.cut image → HasLive l image c.rows (undo_logs since)
  live image parts = record {
    live = λ k low. record {
      size = omega (arith, starts k low, consistent.tells.logged k low, live_size p.cut k p.logged, length-reverse (undo_logs since k));
      each = subst (λ (n : ℕ). HasRecords l k n image (reverse (undo_logs since k))) (sym (consistent.tells.start k low))
          (subst (λ (b : ℕ → ℕ). HasRecords l k (records_in (p.base k) (undo_logs p.logged k)) image (reverse (undo_logs (records_since b p.logged) k))) base_is (parts.live k low));
    };
    others = λ k past. empty (undo_logs since k) (omega (arith, ap (λ (xs : List UndoRecord). length xs) (none_logged l s p c d consistent k past), live_size p.cut k p.logged));
  }

  has_heap : (image : List ℕ) → HasParts l s p.logged p.base p.cut image → HasHeap l (from_heap s (kept_by s p.logged p.cut)) since c.rows image
  has_heap image parts = record {
    room = parts.room;
    header = parts.header;
    guards = parts.guards;
    guarded = parts.guarded;
    rows_of = record { guard = parts.rows.guard; mark = parts.rows.mark; first = λ f low off. parts.rows.first f low off ∙ sym (first_kept s p.logged f legal off p.cut) };
    live = live image parts;
    homes = λ f low is. elim (parts.homes f low is) [
      | inl dropped ↦ inl (dropped_since p.cut (s.guard f) f dropped.lane p.logged dropped.store dropped.logged dropped.beyond)
      | inr holds ↦ inr holds
    ];
  }

  pub joins : IsRoundOn l t s p.logged p.cut [] c d
  joins = record {
    round = record { legal = legal; whole = consistent.past.whole; closed = consistent.past.closed; lanes = lanes; within = within; helper = inl refl; preceding = tt };
    tells = record {
      start = λ k low. starts k (omega (arith, low, within));
      logged = λ k low. consistent.tells.logged k (omega (arith, low, within));
      kept = λ k low. consistent.tells.kept k low;
    };
    heap = record {
      limits = consistent.limits;
      room = consistent.room;
      unsettled = λ k low. consistent.tells.settled k low ∙ sym (starts k low);
      steady = consistent.steady;
      parts = λ image left. subst (λ (xs : List (ℕ × Record)). HasHeap l (from_heap s (kept_by s p.logged p.cut)) xs c.rows image) (sym alone) (has_heap image (consistent.parts image left));
    };
  }
