-- What a cut keeps of a log, by what each lane has logged up to its last release (this project's own).
use Rattle.std.specs.Prelude.{ℕ, ◌≡◌, ◌<◌, true, List, ◌∷◌, ◌++◌}
use Rattle.heap_model.specs.declared.record.Record.{Record}
use Rattle.heap_model.specs.Setting.{Setting}
use Rattle.heap_model.specs.Log.{lane, IsLegal}
use Rattle.heap_model.specs.Sections.{actions}
use Rattle.heap_model.specs.Cuts.{IsWhole, IsClosed}
use Rattle.heap_model.specs.KeptHeap.{kept_value}
use Rattle.thread_rings.specs.Following.{from_release, is_release}

-- each lane of the log, up to its last release, is the beginning of that lane of the other, whatever the order of the lanes among one another
abbrev pub IsReleasedPrefix : (log longer : List (ℕ × Record)) → Type 0
IsReleasedPrefix log longer = (l : ℕ) → (more : List Record) × (lane l longer ≡ more ++ from_release (lane l log))

-- The cut has whole sections of the other log too, each with every section that it depends on there, and its heap is the same.
pub record KeepsSame (s : Setting) (log longer : List (ℕ × Record)) (cut : ℕ → ℕ) : Type 0 where
  pub whole : IsWhole (actions longer) cut
  pub closed : IsClosed (actions longer) cut
  pub same : (f : ℕ) → kept_value s.first cut f log ≡ kept_value s.first cut f longer

-- Each whole, closed cut is kept so. A section that has ended has no record after its lane's last release, and nothing that another lane did
-- depends on those.
abbrev pub ReleasedLaw : Type 0
ReleasedLaw = (s : Setting) (log longer : List (ℕ × Record)) (cut : ℕ → ℕ) → IsLegal s log → IsLegal s longer → IsReleasedPrefix log longer → IsWhole (actions log) cut →
    IsClosed (actions log) cut → KeepsSame s log longer cut

-- The beginning of a log has no more up to the lanes' last releases.
abbrev pub OlderLaw : Type 0
OlderLaw = (newer log longer : List (ℕ × Record)) → IsReleasedPrefix (newer ++ log) longer → IsReleasedPrefix log longer

-- the one log has a record more than the other, a release, and its cut a section that the other lacks
pub record LacksSection (s : Setting) : Type 0 where
  pub log : List (ℕ × Record)
  pub shorter : List (ℕ × Record)
  pub last : ℕ × Record
  pub is_last : log ≡ last ∷ shorter
  pub release : is_release last.1 ≡ true
  pub cut : ℕ → ℕ
  pub legal : IsLegal s log
  pub shorter_legal : IsLegal s shorter
  pub whole : IsWhole (actions log) cut
  pub closed : IsClosed (actions log) cut
  pub lacks : IsWhole (actions shorter) cut → ⊥

-- Nothing less would do: without its last release alone a lane may lack a section.
abbrev pub NeededLaw : Type 0
NeededLaw = (s : Setting) → 0 < s.objects → 0 < s.last → LacksSection s
