-- The past that a store begins with.
use Rattle.std.proofs.Common.{ℕ, ◌≡◌, ◌+◌, ◌<◌, ◌≤◌, true, false, List, [], length, refl, sym, ap, ◌∙◌, subst, arith}
use Rattle.std.specs.Prelude.{All, Contains}
use Rattle.std.proofs.lemmas.List.Elements.{All-nil}
use Rattle.heap_model.specs.declared.ids.ObjectId.{ObjectId}
use Rattle.heap_model.specs.Setting.{Setting}
use Rattle.block_disk.specs.Device.{Device}
use Rattle.image_parts.specs.Guards.{no_row}
use Rattle.image_parts.specs.Recovered.{IsRecovered}
use Rattle.image_parts.specs.declared.guard_row.GuardRow.{GuardRow}
use Rattle.image_parts.specs.declared.layout.Layout.{Layout}
use Rattle.image_parts.specs.declared.slot.Slot.{Slot}
use Rattle.heap_model.specs.Past.{no_past}
use Rattle.store_image.specs.Consistent.{IsConsistent}
use Rattle.store_image.specs.declared.committed.Committed.{Committed}
use Rattle.store_memory.specs.Memory.{Memory}
use Rattle.store_memory.specs.Remembers.{Remembers}
use Rattle.store_memory.specs.Sections.{Logged, TellsSections}
use Rattle.durable.specs.Begin.{HasRows, IsSettingOf}
use Rattle.durable.proofs.Adopting.{rows_recovered, same_setting, setting_is, setting_of}
use Rattle.durable.proofs.Begun.{begins, empty_committed}
use Rattle.store_helper_sections.specs.Image.{kept_by}
use Rattle.store_round_image.specs.Turning.{IsValueIn, fields_of}
use Rattle.store_round_image.specs.declared.cells.HomeValue.{HomeValue}
use Rattle.store_round_making.specs.Rounds.{IsRoundOn}
use Rattle.store_round_making.proofs.Following.{joins}
use Rattle.store_round_memory.specs.Rounds.{KnowsRounds, Rounds}
use Rattle.store_rounds.specs.Begin.{AreFor, AreGuardsOf}
use Rattle.store_rounds.specs.Store.{HasPast, Known}
use Rattle.store_rounds.proofs.Shown.{shows_cut}

-- a store that was told nothing
abbrev pub new_known : Layout → (threads : ℕ) → Committed → Memory → Logged → Rounds → List ObjectId → List HomeValue → Known
new_known l t c m g n guards pending = record { layout = l; threads = t; committed = c; memory = m; sections = g; rounds = n; guards = guards; pending = pending; has_failed = false }

-- What is known of a recovered device and of memory that was told nothing.
pub record IsNew (l : Layout) (t : ℕ) (d : Device) (rows : List GuardRow) (slot : Slot) (sequence : ℕ) (heap : List ℕ) (last : ℕ)
    (c : Committed) (m : Memory) (g : Logged) (n : Rounds) (guards : List ObjectId) (pending : List HomeValue) : Type 0 where
  pub is : IsRecovered d l rows slot sequence heap
  pub fits : last ≤ 1099511627775
  pub some : 1 ≤ t
  pub within : t ≤ l.lanes
  pub most : l.lanes ≤ t + 1
  pub empty : c ≡ empty_committed slot sequence
  pub remembers : (s : Setting) → IsSettingOf l rows heap last s → Remembers s m no_past
  pub tells : TellsSections g (λ k. 0) []
  pub knows : (s : Setting) → IsSettingOf l rows heap last s → KnowsRounds s n no_past
  pub sized : AreFor l t m g n
  pub guarded : AreGuardsOf rows guards
  pub none : pending ≡ []

module _ {l : Layout} {t : ℕ} {d : Device} {rows : List GuardRow} {slot : Slot} {sequence : ℕ} {heap : List ℕ} {last : ℕ} {c : Committed} {m : Memory} {g : Logged} {n : Rounds} {guards : List ObjectId} {pending : List HomeValue}
    (new : IsNew l t d rows slot sequence heap last c m g n guards pending) where
  has_rows : HasRows l rows
  has_rows = rows_recovered l d rows slot sequence heap new.is

  consistent : (s : Setting) → IsSettingOf l rows heap last s → IsConsistent l s no_past c d
  consistent s set = subst (λ (x : Committed). IsConsistent l s no_past x d) (sym new.empty)
      (begins l s d rows slot sequence heap new.is (record { guard = λ f low. set.guards f no_row low; mark = λ f low. set.marks f no_row low; first = set.values }))

  on : (s : Setting) → IsSettingOf l rows heap last s → IsRoundOn l t s [] (λ k. 0) [] c d
  on s set = joins l t s no_past c d (consistent s set) (λ k. refl) tt new.within

  no_pending : (f : ℕ) → Contains (fields_of pending) f → ⊥
  no_pending f there = let some = there.1 in omega (arith, some, ap (λ (cells : List HomeValue). length (fields_of cells)) new.none)

  -- with nothing told, the store has no past
  pub adopts : (s : Setting) → IsSettingOf l rows heap last s → HasPast (new_known l t c m g n guards pending) s no_past d
  adopts s set = record {
    layout = record {
      limits = (consistent s set).limits;
      some = new.some;
      within = new.within;
      most = new.most;
      lanes = new.sized.lanes;
      capacity = new.sized.capacity;
      logged_lanes = new.sized.logged_lanes;
      logged_capacity = new.sized.logged_capacity;
      rounds_lanes = new.sized.rounds_lanes;
      rounds_capacity = new.sized.rounds_capacity;
    };
    setting = record {
      objects = set.objects;
      fields = set.fields;
      last = omega (arith, set.last_is, new.fits);
      many = new.guarded.many ∙ has_rows.size ∙ sym set.fields;
      guards = λ f o low.
          let below : f < l.fields = omega (arith, low, set.fields) in
          ap (λ (x : ObjectId). x.0) (new.guarded.each f o no_row (omega (arith, below, has_rows.size))) ∙ set.guards f no_row below;
    };
    past = (consistent s set).past;
    trimmed = λ k. refl;
    remembers = new.remembers s set;
    sections = new.tells;
    rounds = record { fields = (new.knows s set).fields; objects = (new.knows s set).objects; kept = (new.knows s set).kept; beyond = (new.knows s set).beyond; starts = (new.knows s set).starts; taken = (new.knows s set).taken };
    starts = λ k low. new.sized.starts k;
    kept = λ k low. (on s set).tells.kept k (omega (arith, low, new.within));
    agrees = λ serves. record {
      helped = [];
      on = on s set;
      values = subst (λ (cells : List HomeValue). All (IsValueIn l (kept_by s [] (λ k. 0))) cells) (sym new.none) (All-nil (IsValueIn l (kept_by s [] (λ k. 0))));
      covered = λ f there. absurd (no_pending f there);
      complete = λ f no. absurd (let clash : false ≡ true = no in cc);
    };
    images = shows_cut l t s [] [] (λ k. 0) [] c d (on s set);
  }

  -- there is a setting that it has
  pub adopts_one : (s : Setting) × HasPast (new_known l t c m g n guards pending) s no_past d
  adopts_one =
      let s = setting_of l rows heap last in
      (s, adopts s (setting_is l rows heap last has_rows))

-- A recovered device with the layout k and memory for it, whose rows and heap were handed on.
pub new_of : (l : Layout) (t : ℕ) (d : Device) (rows : List GuardRow) (slot : Slot) (sequence : ℕ) (heap : List ℕ) (last : ℕ) (c : Committed) (m : Memory) (g : Logged) (n : Rounds) (guards : List ObjectId) (pending : List HomeValue) →
    (k : Layout) (given : List GuardRow) (values : List ℕ) → l ≡ k → given ≡ rows → values ≡ heap → IsRecovered d l rows slot sequence heap → last ≤ 1099511627775 → 1 ≤ t → t ≤ k.lanes → k.lanes ≤ t + 1 → c ≡ empty_committed slot sequence →
    ((s : Setting) → IsSettingOf l given values last s → Remembers s m no_past) → TellsSections g (λ k. 0) [] → ((s : Setting) → IsSettingOf l given values last s → KnowsRounds s n no_past) → AreFor l t m g n → AreGuardsOf given guards → pending ≡ [] →
    IsNew l t d rows slot sequence heap last c m g n guards pending
new_of l t d rows slot sequence heap last c m g n guards pending k given values layout same_rows same_heap is fits some within most empty remembers tells knows sized guarded none =
    let lanes : l.lanes ≡ k.lanes = ap (λ (j : Layout). j.lanes) layout in
    record {
      is = is;
      fits = fits;
      some = some;
      within = omega (arith, within, lanes);
      most = omega (arith, most, lanes);
      empty = empty;
      remembers = λ s set. remembers s (same_setting l l rows given heap values last s refl (sym same_rows) (sym same_heap) set);
      tells = tells;
      knows = λ s set. knows s (same_setting l l rows given heap values last s refl (sym same_rows) (sym same_heap) set);
      sized = sized;
      guarded = subst (λ (rs : List GuardRow). AreGuardsOf rs guards) same_rows guarded;
      none = none;
    }
