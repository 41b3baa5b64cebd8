-- A store's past: what it was told, and what became of that (this project's own; acknowledged sections after Atlas's consistent states).
use Rattle.std.specs.Prelude.{ℕ, ◌≡◌, ◌≤◌, ◌==◌, if◌then◌else◌, Bool, true, false, List, [], ◌∷◌, ◌++◌}
use Rattle.heap_model.specs.declared.record.Record.{Record}
use Rattle.heap_model.specs.declared.record.Record.TheVariants.{Acq, Rel, WaitRel, Put}
use Rattle.heap_model.specs.Setting.{Setting}
use Rattle.heap_model.specs.Log.{IsLegal}
use Rattle.heap_model.specs.Sections.{actions}
use Rattle.heap_model.specs.Cuts.{IsWhole, IsClosed}

-- the records that a store was told since its image was made or recovered, by lane, and what became of them
pub record Past : Type 0 where
  -- those applied and not yet logged, and those logged, the newest first
  pub fresh : List (ℕ × Record)
  pub logged : List (ℕ × Record)
  -- by lane: how many sections were trimmed, and how many are acknowledged
  pub base : ℕ → ℕ
  pub cut : ℕ → ℕ
  -- by field: whether it has a logged store newer than its last home write
  pub is_dirty : ℕ → Bool

-- all that was applied, the newest first
abbrev pub applied : Past → List (ℕ × Record)
applied p = p.fresh ++ p.logged

-- a store may have this past
pub record IsPast (s : Setting) (p : Past) : Type 0 where
  pub legal : IsLegal s (applied p)
  -- what was trimmed is acknowledged, and both are whole closed cuts of what was logged
  pub within : (l : ℕ) → p.base l ≤ p.cut l
  pub base_whole : IsWhole (actions p.logged) p.base
  pub base_closed : IsClosed (actions p.logged) p.base
  pub whole : IsWhole (actions p.logged) p.cut
  pub closed : IsClosed (actions p.logged) p.cut

-- nothing was told
abbrev pub no_past : Past
no_past = record { fresh = []; logged = []; base = λ l. 0; cut = λ l. 0; is_dirty = λ f. false }

-- the lane's record was applied
abbrev pub after_apply : Past → (lane : ℕ) → Record → Past
after_apply p l r = record p { fresh = (l, r) ∷ p.fresh }

-- whether one of the records is a store to the field
abbrev pub has_store : (field : ℕ) → List (ℕ × Record) → Bool
has_store f [] = false
has_store f ((l, Acq o n) ∷ older) = has_store f older
has_store f ((l, Rel o n) ∷ older) = has_store f older
has_store f ((l, WaitRel o n) ∷ older) = has_store f older
has_store f ((l, Put g before after) ∷ older) = if g.0 == f then true else has_store f older

-- what was applied is logged
abbrev pub after_log : Past → Past
after_log p = record p { fresh = []; logged = p.fresh ++ p.logged; is_dirty = λ f. if p.is_dirty f then true else has_store f p.fresh }

-- the field's logged value is at home
abbrev pub after_home : Past → (field : ℕ) → Past
after_home p f = record p { is_dirty = λ g. if f == g then false else p.is_dirty g }

-- the cut is acknowledged
abbrev pub after_settle : Past → (ℕ → ℕ) → Past
after_settle p cut = record p { cut = cut }

-- what is acknowledged is trimmed: it is no longer needed
abbrev pub after_trim : Past → Past
after_trim p = record p { base = p.cut }

-- all that is acknowledged was trimmed
abbrev pub IsTrimmed : Past → Type 0
IsTrimmed p = (l : ℕ) → p.base l ≡ p.cut l
