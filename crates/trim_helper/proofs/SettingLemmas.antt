-- The words and the store are judged by one setting.
use Rattle.std.proofs.Common.{ℕ, ◌≡◌, ◌<◌, ◌∙◌, Bool, true, false, not, List, refl, sym, subst}
use Rattle.guards.specs.Schema as schemas
use Rattle.guards.specs.Schema.{Declarations}
use Rattle.image_parts.specs.declared.guard_row.GuardRow.{GuardRow}
use Rattle.image_parts.specs.declared.layout.Layout.{Layout}
use Rattle.durable.specs.Begin.{IsSettingOf}
use Rattle.monitor.specs.declared.view.Plan.{Plan}
use Rattle.monitor.specs.Words.{setting_of}
use Rattle.trim_helper.specs.Opening.{FitsSchema}

twice : (b : Bool) → b ≡ not (not b)
twice true = refl
twice false = refl

begins : (schema : Declarations) (l : Layout) (rows : List GuardRow) (heap : List ℕ) (last : ℕ) → FitsSchema schema l rows → IsSettingOf l rows heap last (schemas.setting_of schema heap last)
begins schema l rows heap last fits = record {
  objects = sym fits.objects;
  fields = sym fits.fields;
  guards = λ f d lt. fits.guarded f d (subst (λ n. f < n) fits.fields lt);
  marks = λ f d lt. fits.marked f d (subst (λ n. f < n) fits.fields lt) ∙ twice (schemas.is_transient_of schema f);
  values = λ f lt. refl;
  last_is = refl;
}

-- that of a plan which was made of a recovered heap
pub planned : (k : Plan) (schema : Declarations) (l : Layout) (rows : List GuardRow) (heap : List ℕ) (last lanes : ℕ) → k ≡ record { schema = schema; first = heap; last = last; lanes = lanes } → FitsSchema schema l rows → IsSettingOf l rows heap last (setting_of k)
planned k schema l rows heap last lanes is fits = subst (λ (m : Plan). IsSettingOf l rows heap last (setting_of m)) (sym is) (begins schema l rows heap last fits)
