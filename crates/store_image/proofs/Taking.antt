-- What is known of a step where it returns early, and where a commit answers for it.
use Rattle.std.proofs.Common.{ℕ, ◌≡◌, ◌+◌, ◌-◌, ◌^◌, ◌⊎◌, ◌↔◌, Result, Ok, Err, IfErr, OnErr, refl, subst, inl, inr, arith}
use Rattle.block_disk.specs.Device.{Device}
use Rattle.block_disk.specs.Images.{ImageBut}
use Rattle.block_disk.proofs.Images.{begin}
use Rattle.heap_model.specs.declared.store_error.StoreError.{StoreError}
use Rattle.heap_model.specs.declared.store_error.StoreError.TheVariants.{Fault, Worn}
use Rattle.image_parts.specs.declared.layout.Layout.{Layout}
use Rattle.store_image.specs.Promises.{TakesOneSequence, TakesStep}
use Rattle.store_image.specs.Sequences.{ShowsUpTo}
use Rattle.store_image.specs.Steps.{step_ranges}
use Rattle.store_image.specs.declared.committed.Committed.{Committed}

-- a fault is no want of sequences
pub not_worn : {T : Type 0} (r : Result T StoreError) → IfErr r (λ e. e ≡ Fault) → r ≡ Err Worn → ⊥
not_worn {T} r only is =
    let clash : Worn ≡ Fault = subst (λ (q : Result T StoreError). IfErr q (λ e. e ≡ Fault)) is only in
    absurd cc

either : {T : Type 0} (r : Result T StoreError) → IfErr r (λ e. e ≡ Fault) → IfErr r (λ e. (e ≡ Worn) ⊎ (e ≡ Fault))
either (Ok x) only = tt
either (Err e) only = inr only

pub worn_never : {T : Type 0} (r : Result T StoreError) (sequence : ℕ) → IfErr r (λ e. e ≡ Fault) → (sequence ≡ 2 ^ 64 - 1 → ⊥) → (r ≡ Err Worn) ↔ (sequence ≡ 2 ^ 64 - 1)
worn_never r sequence only some = ((λ is. absurd (not_worn r only is)), (λ last. absurd (some last)))

module _ {D : Type 0} (device : D → Device) (l : Layout) (c : Committed) (x : D) where
  -- nothing was done
  untouched : {T : Type 0} (r : Result T StoreError) → (r ≡ Err Fault → ⊥) → TakesOneSequence l c (device x) c (device x) r
  untouched r never = record {
    err = always r;
    sequence = omega arith;
    any_sequence = begin (device x) (ShowsUpTo l (c.sequence + 1));
    within = begin (device x) (ImageBut (device x) (step_ranges l));
    cause = record { later = omega arith; failed = λ is. absurd (never is) };
  }
    where
      always : {T : Type 0} (q : Result T StoreError) → OnErr q (c ≡ c)
      always (Ok y) = tt
      always (Err e) = refl

  -- no sequence is left
  pub worn_now : {T : Type 0} → TakesStep {T = T} device l c x c x (Err Worn)
  worn_now {T} = record { no_call = λ is. refl; no_other = inl refl; takes = untouched {T = T} (Err Worn) (λ is. absurd cc) }

  -- there is nothing to do
  pub done_now : {T : Type 0} (answer : T) → TakesStep device l c x c x (Ok answer)
  done_now {T} answer = record { no_call = λ is. refl; no_other = tt; takes = untouched {T = T} (Ok answer) (λ is. absurd cc) }

  -- the answer is that of a commit
  pub step_of : {T : Type 0} (r : Result T StoreError) (c' : Committed) (y : D) → IfErr r (λ e. e ≡ Fault) → TakesOneSequence l c (device x) c' (device y) r → TakesStep device l c x c' y r
  step_of r c' y only takes = record { no_call = λ is. absurd (not_worn r only is); no_other = either r only; takes = takes }
