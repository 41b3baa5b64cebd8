-- Why a section is dropped, looked for in the list of those that are, one after the other.
use Rattle.std.proofs.Common.{ℕ, ◌≡◌, ◌+◌, ◌<◌, ◌∙◌, if◌then◌else◌, Bool, true, false, Some, List, length, get_or, drop, ap}
use Rattle.std.proofs.lemmas.List.{drop_more}
use Rattle.recover.specs.declared.report.Dropped.{Dropped}
use Rattle.inspect.specs.declared.section.SectionId.{SectionId}
use Rattle.inspect.specs.GraphText.{is_about, reason_in}

module _ (xs : List Dropped) (id : SectionId) (i : ℕ) (d : Dropped) (lt : i < length xs) where
  next : reason_in (drop i xs) id ≡ (if is_about (get_or xs i d) id then Some (get_or xs i d).why else reason_in (drop (i + 1) xs) id)
  next = ap (λ (ys : List Dropped). reason_in ys id) (drop_more xs i d lt)

  -- the next one is about it
  pub reason_here : is_about (get_or xs i d) id ≡ true → reason_in (drop i xs) id ≡ Some (get_or xs i d).why
  reason_here is = next ∙ ap (λ (b : Bool). if b then Some (get_or xs i d).why else reason_in (drop (i + 1) xs) id) is

  -- it isn't
  pub reason_later : is_about (get_or xs i d) id ≡ false → reason_in (drop i xs) id ≡ reason_in (drop (i + 1) xs) id
  reason_later is = next ∙ ap (λ (b : Bool). if b then Some (get_or xs i d).why else reason_in (drop (i + 1) xs) id) is
