-- The place behind a lane's sections, by its records and by its undo log.
use Rattle.std.proofs.Common.{ℕ, ◌≡◌, ◌+◌, if◌then◌else◌, List, [], ◌∷◌, map, refl, nat_lt}
use Rattle.heap_model.specs.declared.record.Record.{Record}
use Rattle.heap_model.specs.Record.{undo_of}
use Rattle.heap_model.specs.Sections.{ended}
use Rattle.undo_log.specs.Dropped.{records_in}
use Rattle.undo_log.proofs.Back.{actions_undo, length_undo}
use Rattle.store_memory.specs.Sections.{place_behind}

pub behind_undo : (n : ℕ) (xs : List Record) → records_in n (map undo_of xs) ≡ place_behind n xs
behind_undo n [] = refl
behind_undo n (r ∷ older) = λ i. if nat_lt (ended (actions_undo older i)) n then length_undo older i + 1 else behind_undo n older i
