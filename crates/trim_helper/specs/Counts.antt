-- What a count that the helper published as acknowledged stands for: a cut (Atlas's consistent states).
use Rattle.std.specs.Prelude.{ℕ, ◌≡◌, ◌<◌, ◌⊎◌, List}
use Rattle.heap_model.specs.declared.record.Record.{Record}
use Rattle.heap_model.specs.Sections.{actions}
use Rattle.heap_model.specs.Cuts.{IsWhole, IsClosed}
use Rattle.block_disk.specs.Device.{Device}
use Rattle.store_rounds.specs.Store as stores
use Rattle.store_rounds.specs.Store.{HasPast}
use Rattle.heap_model.specs.Setting.{Setting}
use Rattle.monitor.specs.declared.view.Post.TheVariants.{Stable}
use Rattle.monitor.specs.Posts.{WasPublished, post_number}
use Rattle.monitor.specs.Seats.{Helping}
use Rattle.heap_model.specs.Past.{Past, applied}

-- Some whole, closed cut of these records has so many sections of the lane.
pub record IsCutCount (log : List (ℕ × Record)) (lane count : ℕ) : Type 0 where
  pub cut : ℕ → ℕ
  pub counted : cut lane ≡ count
  pub whole : IsWhole (actions log) cut
  pub closed : IsClosed (actions log) cut

-- the helper published so many sections of the lane as acknowledged, once; none stands there before the first
abbrev pub WasCount : Helping → (lane count : ℕ) → Type 0
WasCount h l n = WasPublished (post_number (Stable (record { 0 = l }))) n h.view.notes

-- each count that it ever published of these lanes is that of a whole, closed cut of what was applied
abbrev pub StandForCuts : Helping → (lanes : ℕ) → Past → Type 0
StandForCuts h lanes p = (l n : ℕ) → l < lanes → WasCount h l n → IsCutCount (applied p) l n

module _ {D : Type 0} (device : D → Device) where
  -- by lane, of acknowledged counts no other was published since than the one that the store has
  abbrev pub AddsCounts : stores.Parts D → (old new : Helping) → Type 0
  AddsCounts x h k = (s : Setting) (p : Past) → HasPast x.known s p (device x.disk) → (l n : ℕ) → l < x.known.threads →
      WasCount k l n → WasCount h l n ⊎ (n ≡ p.cut l)
