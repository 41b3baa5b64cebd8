-- A load gives what the thread's own events say of the field.
use Rattle.std.proofs.Common.{ℕ, ◌≡◌, List, ◌∷◌, Some, ◌∙◌}
use Rattle.heap_model.specs.declared.ids.FieldId.{FieldId}
use Rattle.heap_model.specs.declared.event.Event.{Event}
use Rattle.heap_model.specs.declared.event.Event.TheVariants.{Load}
use Rattle.heap_model.specs.Known.{known_value}
use Rattle.monitor.specs.declared.view.View as raw
use Rattle.monitor.specs.Laws.{LoadLaw}
use Rattle.monitor.specs.Views.{Stands}
use Rattle.monitor.specs.Words.{setting_of}

pub loaded_known : LoadLaw → (w : raw.View) (f : FieldId) (x y : ℕ) (older : List Event) → Stands w → w.events ≡ Load f x ∷ older → known_value (setting_of w.plan) older f.0 ≡ Some y → x ≡ y
loaded_known law w f x y older stands told known = law (record w { events = older }) f x y (record { history = stands.history; legal = stands.legal; part = stands.part ∙ told; later = stands.later }) known
