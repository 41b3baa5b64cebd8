-- Whatever a crash leaves of a machine's disk is an image of the machine's schema, or none.
use Rattle.std.proofs.Common.{◌≡◌, inl, inr, ⊎_elim, ℕ, ◌<◌, ◌≤◌, true, false, List, [], ◌∷◌, get_or, replicate, refl, sym, ◌∙◌, ap, subst, arith}
use Rattle.std.proofs.lemmas.List.{length-replicate}
use Rattle.std.specs.Prelude.{not, slice_index}
use Rattle.guards.specs.Schema.{Declarations, field_count, first_of, is_transient_of}
use Rattle.heap_model.specs.declared.limits.TheConstants.{LAST_NUMBER}
use Rattle.heap_model.specs.declared.record.Record.{Record}
use Rattle.heap_model.specs.Setting.{Setting}
use Rattle.block_disk.specs.Crash.{LeftSinceStop}
use Rattle.block_disk.specs.Device.{Device, LeftIn, LeftSince, Moment, SameMoments, synced}
use Rattle.block_disk.specs.Images.{LeavesOnly}
use Rattle.block_disk.specs.Memory.{Memory, device_of, fresh}
use Rattle.block_disk.proofs.Images.{always_now, image_now, left_now, left_since, only_now}
use Rattle.image_parts.specs.Calls.{after}
use Rattle.image_parts.specs.Format.{format_calls}
use Rattle.image_parts.specs.Guards.{HasGuards, no_row}
use Rattle.image_parts.specs.Layout.{IsLayoutOf, size_of}
use Rattle.image_parts.specs.declared.guard_row.GuardRow.{GuardRow}
use Rattle.image_parts.specs.declared.layout.Layout.{Layout}
use Rattle.image_parts.proofs.GuardLemmas.{one_row_there}
use Rattle.image_parts.proofs.Reading.{guards_are_read, one_layout}
use Rattle.heap_model.specs.Past.{Past, after_log, after_settle, after_trim, no_past}
use Rattle.store_image.specs.Consistent.{HasParts}
use Rattle.durable.specs.Store.{FitsImage, Parts, ShowsStep}
use Rattle.durable.specs.Store.ShowsStep.{Shows, ShowsLogged, ShowsSettled, ShowsTrimmed}
use Rattle.durable.specs.declared.doubt.Doubt.{Doubt}
use Rattle.script_monitors.specs.Table.{Table, setting_in}
use Rattle.recover.specs.Reading.{HasFront}
use Rattle.recover.specs.Recovery.{IsOnTheWay}
use Rattle.recover.specs.Study.{IsStudyOf}
use Rattle.recover.specs.declared.studied.Study.{Study}
use Rattle.script_machine.specs.declared.answer.Report.{Report}
use Rattle.script_machine.specs.Agreement.{BeginsWith, setting_from}
use Rattle.script_machine.specs.Images.{DiskLaw}
use Rattle.script_machine.specs.OfSchema.{FitsSchema, IsDiskOf, IsOfSchema}
use Rattle.script_machine.specs.Reports.{Restores}
use Rattle.script_machine.specs.States.{Tells}
use Rattle.script_machine.proofs.AgreementLemmas.{begins-with, not_not}
use Rattle.script_machine.proofs.MakingLemmas.{no_other, zero_first}

-- an image with one front of the schema has no other
front_fits : (schema : Declarations) (image : List ℕ) (l : Layout) (rows : List GuardRow) → HasFront image l rows → FitsSchema schema l rows → IsOfSchema schema image
front_fits schema image l rows front fits m others other =
    let is : l ≡ m = one_layout l m front.layout.header.limits other.layout.header.limits (sym front.layout.header.spelled ∙ other.layout.header.spelled) in
    let same : rows ≡ others = guards_are_read m image rows others (subst (λ (k : Layout). HasGuards k image rows) is front.guards_are) other.guards_are in
    subst (λ (k : Layout). FitsSchema schema k others) is (subst (λ (g : List GuardRow). FitsSchema schema l g) same fits)

-- a field's row is there, whatever stands for a missing one
row_there : (l : Layout) (guards : List GuardRow) (image : List ℕ) → HasGuards l image guards → (f : ℕ) (d : GuardRow) → f < l.fields → get_or guards f d ≡ get_or guards f no_row
row_there l guards image guarded f d within = one_row_there l f image (get_or guards f d) (get_or guards f no_row) (guarded.each f d within) (guarded.each f no_row within)

-- the transient fields begin with the schema's values
abbrev pub BeginsTransient : Declarations → (first : ℕ → ℕ) → Type 0
BeginsTransient schema first = (f : ℕ) → f < field_count schema → is_transient_of schema f ≡ true → first f ≡ first_of schema f

-- of a store in this setting

parts_fit : (a : Table) (first : ℕ → ℕ) (l : Layout) (log : List (ℕ × Record)) (base cut : ℕ → ℕ) (image : List ℕ) → FitsImage l (setting_from a first)
    → BeginsTransient a.schema first → HasParts l (setting_from a first) log base cut image → IsOfSchema a.schema image
parts_fit a first l log base cut image fits begins parts =
    front_fits a.schema image l parts.guards (record { layout = record { header = parts.header; room = parts.room }; guards_are = parts.guarded }) (record {
      objects = sym fits.objects;
      fields = sym fits.fields;
      guarded = λ f d below.
          let within : f < l.fields = subst (λ n. f < n) fits.fields below in
          ap (λ (r : GuardRow). r.guard.0) (row_there l parts.guards image parts.guarded f d within) ∙ parts.rows.guard f within;
      marked = λ f d below.
          let within : f < l.fields = subst (λ n. f < n) fits.fields below in
          ap (λ (r : GuardRow). r.transient) (row_there l parts.guards image parts.guarded f d within) ∙ parts.rows.mark f within ∙ not_not (is_transient_of a.schema f);
      begun = λ f d below is.
          let within : f < l.fields = subst (λ n. f < n) fits.fields below in
          ap (λ (r : GuardRow). r.first) (row_there l parts.guards image parts.guarded f d within) ∙ parts.rows.first f within (ap not is) ∙ begins f below is;
    })

-- what reads is of the schema
pub reads_of : (schema : Declarations) (x : Memory) → IsDiskOf schema x → IsOfSchema schema (device_of x).now.bytes
reads_of schema x was = let d = device_of x in was d.now.bytes (left_since 0 d d.now.bytes (omega arith) (image_now d))

-- where a store's device is of the schema, its transient fields begin with the schema's values
first_there : (schema : Declarations) (l : Layout) (s : Setting) (log : List (ℕ × Record)) (base cut : ℕ → ℕ) (image : List ℕ) → HasParts l s log base cut image → IsOfSchema schema image
    → (f : ℕ) → f < field_count schema → is_transient_of schema f ≡ true → s.is_logged f ≡ false → s.first f ≡ first_of schema f
first_there schema l s log base cut image parts of f below is unlogged =
    let fits : FitsSchema schema l parts.guards = of l parts.guards (record { layout = record { header = parts.header; room = parts.room }; guards_are = parts.guarded }) in
    sym (parts.rows.first f (subst (λ n. f < n) (sym fits.fields) below) unlogged) ∙ fits.begun f no_row below is

first_of_store : (schema : Declarations) (x : Parts Memory) (s : Setting) (p : Past) → Tells x s p → x.known.has_failed ≡ false → IsDiskOf schema x.disk
    → (f : ℕ) → f < field_count schema → is_transient_of schema f ≡ true → s.is_logged f ≡ false → s.first f ≡ first_of schema f
first_of_store schema x s p has running of =
    let d = device_of x.disk in
    first_there schema x.known.layout s p.logged p.base p.cut d.now.bytes
    (always_now d (HasParts x.known.layout s p.logged p.base p.cut) (has.agrees running).parts) (reads_of schema x.disk of)

shown_fits : (a : Table) (first : ℕ → ℕ) (l : Layout) (p : Past) (w : Doubt) (image : List ℕ) → FitsImage l (setting_from a first) → BeginsTransient a.schema first
    → ShowsStep l (setting_from a first) p w image → IsOfSchema a.schema image
shown_fits a first l p w image fits begins (Shows shown) = parts_fit a first l p.logged p.base p.cut image fits begins shown.parts
shown_fits a first l p w image fits begins (ShowsLogged doubt shown) = let q = after_log p in parts_fit a first l q.logged q.base q.cut image fits begins shown.parts
shown_fits a first l p w image fits begins (ShowsSettled doubt clean cut stable shown) = let q = after_settle p cut in parts_fit a first l q.logged q.base q.cut image fits begins shown.parts
shown_fits a first l p w image fits begins (ShowsTrimmed doubt shown) = let q = after_trim p in parts_fit a first l q.logged q.base q.cut image fits begins shown.parts

-- a call of the store leaves it so
pub called_of : (a : Table) (first : ℕ → ℕ) (p : Past) (w : Doubt) (x : Parts Memory) (y : Memory) → Tells x (setting_from a first) p → x.known.has_failed ≡ false
    → LeavesOnly (device_of x.disk) (device_of y) (ShowsStep x.known.layout (setting_from a first) p w) → IsDiskOf a.schema x.disk → IsDiskOf a.schema y
called_of a first p w x y has running leaves was image left =
    let begins : BeginsTransient a.schema first = λ f below is. first_of_store a.schema x (setting_from a first) p has running was f below is (ap not is) in
    ⊎_elim (λ before. was image before) (λ shown. shown_fits a first x.known.layout p w image has.setting begins shown) (leaves.each 0 image (omega arith) left)

-- of the disk itself

-- nothing was asked of it yet
pub fresh_of : (schema : Declarations) (bytes : List ℕ) → IsOfSchema schema bytes → IsDiskOf schema (fresh bytes)
fresh_of schema bytes is image left =
    let d = device_of (fresh bytes) in
    subst (IsOfSchema schema) (sym (only_now d image refl (left_now d image left))) is

-- it has the same moments
pub same_of : (schema : Declarations) (x y : Memory) → SameMoments (device_of x) (device_of y) → IsDiskOf schema x → IsDiskOf schema y
same_of schema x y same was image left = was image (subst (λ (ms : List Moment). LeftIn 0 ms image) (λ i. same.now i ∷ same.past i) left)

left_synced : (schema : Declarations) (x : Memory) (image : List ℕ) → IsDiskOf schema x → LeftSince 0 (synced (device_of x)) image → IsOfSchema schema image
left_synced schema x image was left =
    ⊎_elim (λ now. subst (IsOfSchema schema) (sym (only_now (synced (device_of x)) image refl now.1)) (reads_of schema x was)) (λ before. was image before) left

-- or those of a sync more
pub synced_of : (schema : Declarations) (x y : Memory) → SameMoments (synced (device_of x)) (device_of y) → IsDiskOf schema x → IsDiskOf schema y
synced_of schema x y same was image left = left_synced schema x image was (subst (λ (ms : List Moment). LeftIn 0 ms image) (λ i. same.now i ∷ same.past i) left)

any_time : (t : ℕ) (ms : List Moment) (image : List ℕ) → LeftIn t ms image → LeftIn 0 ms image
any_time t [] image left = left
any_time t (m ∷ ms) image (inl now) = inl (omega arith, now.1)
any_time t (m ∷ ms) image (inr was) = inr (any_time t ms image was)

-- what a crash leaves at a stop
pub crashed_of : (schema : Declarations) (x : Memory) (k : ℕ) (image : List ℕ) → IsDiskOf schema x → LeftSinceStop k x image → IsOfSchema schema image
crashed_of schema x k image was left = let d = device_of x in was image (any_time _ (d.now ∷ d.past) image left)

-- an image is made over zeros
pub made_of : (schema : Declarations) (l : Layout) (size : ℕ) (y : Memory) → IsLayoutOf schema l → size_of l ≤ size
    → device_of y ≡ after (format_calls l schema) (device_of (fresh (replicate size 0))) → IsDiskOf schema y
made_of schema l size y is enough made image left m rows front =
    let d = device_of (fresh (replicate size 0)) in
    let reads = no_other l schema is d (omega (arith, enough, length-replicate {A = ℕ} size 0)) refl (zero_first size) refl image
    (subst (λ (e : Device). LeftSince 0 e image) made left) m rows front.layout.header front.guards_are in
    record {
      objects = ap (λ (k : Layout). k.objects) reads.0 ∙ is.objects;
      fields = ap (λ (k : Layout). k.fields) reads.0 ∙ is.fields;
      guarded = λ f r below. ap (λ (row : GuardRow). row.guard.0) (reads.1 f r (subst (λ n. f < n) (sym is.fields) below));
      marked = λ f r below. ap (λ (row : GuardRow). row.transient) (reads.1 f r (subst (λ n. f < n) (sym is.fields) below));
      begun = λ f r below marked. ap (λ (row : GuardRow). row.first) (reads.1 f r (subst (λ n. f < n) (sym is.fields) below));
    }

-- recovery

studied_of : (schema : Declarations) (image : List ℕ) (s : Study) → FitsSchema schema s.layout s.guards.items → IsStudyOf image s → IsOfSchema schema image
studied_of schema image s fits of = front_fits schema image s.layout s.guards.items of.holds.control.front fits

-- a disk that was made of an image and only read since
pub disk_of : DiskLaw
disk_of schema image s disk of fits same = same_of schema (fresh image) disk same (fresh_of schema image (studied_of schema image s fits of))

on_the_way : (schema : Declarations) (image : List ℕ) (s : Study) → FitsSchema schema s.layout s.guards.items → IsOnTheWay s image → IsOfSchema schema image
on_the_way schema image s fits (inl of) = studied_of schema image s fits of
on_the_way schema image s fits (inr ended) =
    let e : Study = ended.0 in
    studied_of schema image e (subst (λ (k : Layout). FitsSchema schema k e.guards.items) (sym ended.1.layout_is)
    (subst (λ (g : List GuardRow). FitsSchema schema s.layout g) (sym ended.1.guards_are) fits)) ended.2

-- a store over what recovery makes of it begins with the heap that is told, in the schema
pub restored_of : (schema : Declarations) (old : Memory) (x : Parts Memory) (told : Report) → IsDiskOf schema old → Restores old x told
    → x.known.has_failed ≡ false → BeginsWith schema told.heap.items x
restored_of schema old x told was r running =
    let recovery = r.recovery in
    let s : Study = recovery.study in
    let fits : FitsSchema schema s.layout s.guards.items = reads_of schema old was s.layout s.guards.items recovery.of.holds.control.front in
    let fits_parts : FitsSchema schema r.recovered.layout r.recovered.guards =
    subst (λ (k : Layout). FitsSchema schema k r.recovered.guards) (sym recovery.layout_is) (subst (λ (g : List GuardRow). FitsSchema schema s.layout g) (sym recovery.guards_are) fits) in
    let leaves = r.any_moment s recovery.of in
    let of_schema : IsDiskOf schema r.recovered.disk = λ image left.
    ⊎_elim (λ before. left_synced schema old image was before) (λ way. on_the_way schema image s fits way) (leaves.each 0 image (omega arith) left) in
    let of : IsDiskOf schema x.disk = subst (IsDiskOf schema) (sym r.reopens.disk) of_schema in
    let first : ℕ → ℕ = slice_index told.heap.items in
    let tells = begins-with schema r.recovered.layout r.recovered.guards r.recovered.heap told.heap.items x fits_parts r.reopens.reported.heap r.reopens.tells in
    record {
      tells = tells;
      begun = λ f below is. first_of_store schema x (record (setting_in schema LAST_NUMBER) { first = first }) no_past (tells first (λ g low. refl)) running of f below is (ap not is);
      running = running;
      of_schema = of;
    }
