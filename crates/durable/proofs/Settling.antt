-- What a settling says of any past of its store.
use Rattle.std.proofs.Common.{◌≡◌, ◌-◌, ◌^◌, ℕ, true, false, List, Option, sym, subst}
use Rattle.std.specs.Prelude.{slice_index, MatchOption}
use Rattle.std.specs.Option.{is_some}
use Rattle.heap_model.specs.declared.cut.Cut.{Cut}
use Rattle.heap_model.specs.declared.ids.FieldId.{FieldId}
use Rattle.heap_model.specs.Setting.{Setting}
use Rattle.heap_model.specs.Log.{lane}
use Rattle.heap_model.specs.Sections.{actions}
use Rattle.heap_model.specs.Cuts.{IsStable, counts_of}
use Rattle.heap_model.specs.declared.record.Record.{Record}
use Rattle.block_disk.specs.Device.{Device}
use Rattle.block_disk.specs.Images.{LeavesOnly}
use Rattle.image_parts.specs.declared.layout.Layout.{Layout}
use Rattle.store_image.specs.Consistent.{ShowsEither}
use Rattle.store_image.specs.KeptHeap.{StandsForEither}
use Rattle.store_image.specs.Steps.{MaySettle}
use Rattle.store_image.specs.declared.committed.Committed.{Committed}
use Rattle.store_memory.specs.Begin.{IsLeastDirtyOf}
use Rattle.store_memory.specs.Remembers.{Remembers}
use Rattle.store_memory.specs.Sections.{Logged, place_behind, TellsSections}
use Rattle.heap_model.specs.Past.{Past}
use Rattle.heap_model.specs.declared.store_error.StoreError.{StoreError}
use Rattle.heap_model.specs.declared.store_error.StoreError.TheVariants.{Worn, Fault}
use Rattle.durable.specs.Calls.{IsClean, RefusesSettle}
use Rattle.durable.specs.Steps.{IsPastOf}
use Rattle.durable.specs.Store.{Parts, HasPast, ShowsStep}
use Rattle.durable.specs.declared.doubt.Doubt.{Doubt}
use Rattle.durable.proofs.Storing.{one_stable, failed_has, logs_now, settle_refused, may_settle, none_dirty}

-- the store has the fields y, it serves, no field is dirty, and the stable cut was found
pub record IsSettling {D : Type 0} (y z : Parts D) (cut : Cut) (places : List ℕ) : Type 0 where
  pub view_is : y ≡ z
  pub serves : y.known.has_failed ≡ false
  pub clean : (s : Setting) (p : Past) → Remembers s y.known.memory p → IsClean s p
  pub stable : (p : Past) → TellsSections y.known.logged p.base p.logged → IsStable (actions p.logged) (counts_of cut)
  pub behind : (p : Past) → TellsSections y.known.logged p.base p.logged → (k : ℕ) → slice_index places k ≡ place_behind (counts_of cut k) (lane k p.logged)

pub settling : {D : Type 0} {y z : Parts D} (found : Option FieldId) (cut : Cut) (places : List ℕ) → y ≡ z → y.known.has_failed ≡ false → is_some found ≡ false →
    ((s : Setting) (p : Past) → Remembers s y.known.memory p → MatchOption found (IsClean s p) (λ field. IsLeastDirtyOf s p field.0)) →
    ((base : ℕ → ℕ) (log : List (ℕ × Record)) → TellsSections y.known.logged base log → IsStable (actions log) (counts_of cut)) →
    ((base : ℕ → ℕ) (log : List (ℕ × Record)) → TellsSections y.known.logged base log → (k : ℕ) → slice_index places k ≡ place_behind (counts_of cut k) (lane k log)) →
    IsSettling y z cut places
settling {D} {y} {z} found cut places view serves none least stable behind = record {
  view_is = view;
  serves = serves;
  clean = λ s p remembers. none_dirty s p found none (least s p remembers);
  stable = λ p told. stable p.base p.logged told;
  behind = λ p told. behind p.base p.logged told;
}

module _ {D : Type 0} (device : D → Device) {y z : Parts D} {cut : Cut} {places : List ℕ} (k : IsSettling y z cut places) where
  -- what the step asks for
  pub may : (s : Setting) (p : Past) → IsPastOf device y s p → MaySettle y.known.layout s p y.known.committed (device y.disk) cut places
  may s p was = may_settle y.known s p (device y.disk) was cut places k.serves (k.clean s p was.remembers) (k.stable p was.sections) (k.behind p was.sections)

  -- all was at home
  pub answers : (s : Setting) (p : Past) → IsPastOf device y s p → (y.known.has_failed ≡ false) × IsClean s p
  answers s p was = (k.serves, k.clean s p was.remembers)

  -- or why it wasn't made
  pub refuses_worn : (e : StoreError) → e ≡ Worn → y.known.committed.sequence ≡ 2 ^ 64 - 1 → (s : Setting) (p : Past) → IsPastOf device y s p → RefusesSettle y.known s p e
  refuses_worn e is last s p was = settle_refused y.known s p e k.serves is (k.clean s p was.remembers) last

  pub refuses_fault : (e : StoreError) → e ≡ Fault → (s : Setting) (p : Past) → IsPastOf device y s p → RefusesSettle y.known s p e
  refuses_fault e is s p was = subst (RefusesSettle y.known s p) (sym is) (k.serves, k.clean s p was.remembers)

  -- the cut that was found is the stable one
  pub of_stable : (After : (ℕ → ℕ) → Type 0) → (s : Setting) (p : Past) (other : ℕ → ℕ) → IsPastOf device y s p → IsStable (actions p.logged) other → After (counts_of cut) → After other
  of_stable After s p other was stable = subst After (λ i l. one_stable (actions p.logged) (counts_of cut) other (k.stable p was.sections) stable l i)

  module _ (d2 : Device) where
    -- whatever a crash left meanwhile stands for the heap acknowledged, or for that of the stable cut
    pub stands_for_one : ((s : Setting) (p : Past) → MaySettle y.known.layout s p y.known.committed (device y.disk) cut places → LeavesOnly (device y.disk) d2 (StandsForEither y.known.layout s p.logged p.cut (counts_of cut))) →
        (s : Setting) (p : Past) (other : ℕ → ℕ) → IsPastOf device y s p → IsStable (actions p.logged) other → LeavesOnly (device y.disk) d2 (StandsForEither y.known.layout s p.logged p.cut other)
    stands_for_one meanwhile s p other was stable =
        of_stable (λ (c : ℕ → ℕ). LeavesOnly (device y.disk) d2 (StandsForEither y.known.layout s p.logged p.cut c)) s p other was stable (meanwhile s p (may s p was))

    -- and shows the past, or what the step makes of it, which is in doubt so
    module _ (w : Doubt) (after : Past → (ℕ → ℕ) → Past)
        (then : (l : Layout) (s : Setting) (p : Past) (c : ℕ → ℕ) (d e : Device) → IsClean s p → IsStable (actions p.logged) c → LeavesOnly d e (ShowsEither l s p (after p c)) → LeavesOnly d e (ShowsStep l s p w))
        (meanwhile : (s : Setting) (p : Past) → MaySettle y.known.layout s p y.known.committed (device y.disk) cut places → LeavesOnly (device y.disk) d2 (ShowsEither y.known.layout s p (after p (counts_of cut)))) where
      pub shows : (s : Setting) (p : Past) → IsPastOf device y s p → LeavesOnly (device y.disk) d2 (ShowsStep y.known.layout s p w)
      shows s p was = then y.known.layout s p (counts_of cut) (device y.disk) d2 (k.clean s p was.remembers) (k.stable p was.sections) (meanwhile s p (may s p was))

      -- after a fault the store has the past still
      pub fails : (c : Committed) (g : Logged) → c ≡ y.known.committed → g ≡ y.known.logged → (s : Setting) (p : Past) → IsPastOf device y s p →
          HasPast (record { layout = y.known.layout; committed = c; memory = y.known.memory; logged = g; has_failed = true; doubt = w }) s p d2
      fails c g same_c same_g s p was = failed_has y.known s p (device y.disk) was c g w d2 same_c same_g (logs_now y.known s p (device y.disk) was w d2 k.serves (shows s p was))
