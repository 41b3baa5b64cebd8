-- Each home write leaves fewer fields dirty.
use Rattle.std.proofs.Common.{◌≡◌, ◌<◌, ◌+◌, ℕ, List, true, false, if◌then◌else◌, inl, inr, refl, sym, ◌∙◌, subst, arith}
use Rattle.std.proofs.lemmas.Bool.{cases_lt}
use Rattle.std.proofs.lemmas.Bool.Decides.{eqb_tells}
use Rattle.heap_model.specs.Setting.{Setting}
use Rattle.store_memory.specs.Begin.{IsLeastDirtyOf}
use Rattle.heap_model.specs.Past.{Past, after_home}
use Rattle.image_parts.specs.declared.layout.Layout.{Layout}
use Rattle.store_image.specs.Consistent.{ShowsPast}

-- where no field below k is dirty, none below the next is once the least dirty one is at home
pub clean-on : (s : Setting) (p : Past) (f k : ℕ) → IsLeastDirtyOf s p f → ((g : ℕ) → g < k → p.is_dirty g ≡ false)
    → (g : ℕ) → g < k + 1 → (after_home p f).is_dirty g ≡ false
clean-on s p f k least clean g below = elim (eqb_tells f g) [
  | inl e ↦ subst (λ b. (if b then false else p.is_dirty g) ≡ false) (sym e.0) refl
  | inr e ↦ subst (λ b. (if b then false else p.is_dirty g) ≡ false) (sym e.0) (elim (cases_lt g k) [
    | inl lt ↦ clean g lt
    | inr ge ↦ elim (cases_lt f k) [
      | inl lt ↦ absurd (let both : true ≡ false = sym least.among ∙ clean f lt in cc)
      | inr le ↦ elim (cases_lt g f) [ inl under ↦ least.lowest g under | inr over ↦ absurd (e.1 (omega arith)) ]
    ]
  ])
]

-- what shows the past after a home write shows it of the past before: where the cells are dirty is written nowhere
pub shows_before : (l : Layout) (s : Setting) (p : Past) (f : ℕ) (image : List ℕ) → ShowsPast l s (after_home p f) image → ShowsPast l s p image
shows_before l s p f image shown = record { slot = shown.slot; control = shown.control; shows = shown.shows; current = shown.current; tells = shown.tells; parts = shown.parts }
