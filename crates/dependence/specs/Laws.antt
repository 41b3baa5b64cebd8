-- The law by which records reach a graph.
use Rattle.std.specs.Prelude.{ℕ, List}
use Rattle.heap_model.specs.declared.record.Record.{Record}
use Rattle.heap_model.specs.Setting.{Setting}
use Rattle.heap_model.specs.Log.{IsLegal, IsAllowed}
use Rattle.heap_model.specs.Sections.{action, actions}
use Rattle.heap_model.specs.Cuts.{IsWhole}
use Rattle.heap_model.specs.Base.{since}
use Rattle.dependence.specs.Next.{IsNext}

-- A record that may follow a legal list may come next in a graph of it, from which a whole cut was forgotten.
abbrev pub AllowedLaw : Type 0
AllowedLaw = (s : Setting) (log : List (ℕ × Record)) (base : ℕ → ℕ) (l : ℕ) (r : Record) → IsLegal s log → IsWhole (actions log) base → IsAllowed s log l r →
    IsNext (since base (actions log)) l (action r)
