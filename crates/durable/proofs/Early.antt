-- What a crash leaves that came by the moment at which some of the calls had been made.
use Rattle.std.proofs.Common.{ℕ, zero, suc, ◌≡◌, ◌<◌, ◌≤◌, ◌⊎◌, ◌∷◌, ◌++◌, [], List, Some, length, take, slice_get, refl, ap, inl, inr, subst, arith, length-append}
use Rattle.heap_model.specs.Setting.{Setting}
use Rattle.block_disk.specs.Device.{Device, Moment, LeftIn, LeftSince}
use Rattle.block_disk.specs.Images.{Continues, LeavesOnly}
use Rattle.image_parts.specs.declared.layout.Layout.{Layout}
use Rattle.heap_model.specs.Past.{Past}
use Rattle.durable.specs.Calls.{MakeAll, ShowsAfterSome}
use Rattle.durable.specs.Moments.{LeftBetween, LeftUpTo}
use Rattle.durable.specs.Store.{ShowsStep, Shows, ShowsLogged, ShowsSettled, ShowsTrimmed, doubt_in}
use Rattle.durable.specs.declared.doubt.Doubt.{Doubt}
use Rattle.durable.specs.declared.doubt.Doubt.TheVariants.{Nothing}
use Rattle.durable.specs.declared.store_call.StoreCall.{StoreCall}

-- The moments.

-- of these moments, whatever the last was
between_in : (t u : ℕ) (ms : List Moment) (image : List ℕ) → LeftBetween t u ms image → LeftIn t ms image
between_in t u [] image left = left
between_in t u (m ∷ before) image (inl at) = inl (at.0, at.2)
between_in t u (m ∷ before) image (inr was) = inr (between_in t u before image was)

-- later ones are none of them
earlier_in : (t : ℕ) (since : List Moment) (now : Moment) (past : List Moment) (image : List ℕ) → LeftBetween t (length past) (since ++ (now ∷ past)) image → LeftIn t (now ∷ past) image
earlier_in t [] now past image left = between_in t (length past) (now ∷ past) image left
earlier_in t (m ∷ since) now past image (inl at) = let low = at.1 in absurd (omega (arith, low, length-append since (now ∷ past)))
earlier_in t (m ∷ since) now past image (inr was) = earlier_in t since now past image was

-- so a crash up to then is one of the device as it was
up_to : (first between last : Device) (image : List ℕ) → Continues between last → LeftUpTo first between last image → LeftSince (length first.past) between image
up_to first between last image grows left =
    earlier_in (length first.past) grows.since between.now between.past image (subst (λ (ms : List Moment). LeftBetween (length first.past) (length between.past) ms image) grows.moments left)

-- what a crash up to then leaves
pub early : (first between last : Device) (P : List ℕ → Type 0) → LeavesOnly first between P → Continues between last → (image : List ℕ) → LeftUpTo first between last image → LeftSince (length first.past) first image ⊎ P image
early first between last P leaves grows image left = leaves.each (length first.past) image (omega arith) (up_to first between last image grows left)

-- The calls.

-- the first n of one more
pub first_of_more : (calls : List StoreCall) (n : ℕ) (call : StoreCall) → n < length calls → take n (take n calls ++ call ∷ []) ≡ take n calls
first_of_more [] n call lt = absurd (omega (arith, lt))
first_of_more (c ∷ calls) zero call lt = refl
first_of_more (c ∷ calls) (suc n) call lt = ap (λ (cs : List StoreCall). c ∷ cs) (first_of_more calls n call (omega (arith, lt)))

pub within_more : (calls : List StoreCall) (n : ℕ) (call : StoreCall) → n < length calls → n ≤ length (take n calls ++ call ∷ [])
within_more [] n call lt = absurd (omega (arith, lt))
within_more (c ∷ calls) zero call lt = omega arith
within_more (c ∷ calls) (suc n) call lt = let rest = within_more calls n call (omega (arith, lt)) in omega (arith, rest)

pub next_of_more : (calls : List StoreCall) (n : ℕ) (call : StoreCall) → n < length calls → slice_get (take n calls ++ call ∷ []) n ≡ Some call
next_of_more [] n call lt = absurd (omega (arith, lt))
next_of_more (c ∷ calls) zero call lt = refl
next_of_more (c ∷ calls) (suc n) call lt = next_of_more calls n call (omega (arith, lt))

-- some of them are some of one more
same_first : (calls : List StoreCall) (n : ℕ) (call : StoreCall) → n ≤ length calls → take n calls ≡ take n (calls ++ call ∷ [])
same_first calls zero call le = refl
same_first [] (suc n) call le = absurd (omega (arith, le))
same_first (c ∷ calls) (suc n) call le = ap (λ (cs : List StoreCall). c ∷ cs) (same_first calls n call (omega (arith, le)))

-- what shows the past with nothing in doubt shows it with whatever is
pub no_doubt : (l : Layout) (s : Setting) (p : Past) (w : Doubt) (image : List ℕ) → ShowsStep l s p Nothing image → ShowsStep l s p w image
no_doubt l s p w image (Shows shown) = Shows shown
no_doubt l s p w image (ShowsLogged doubt shown) = absurd cc
no_doubt l s p w image (ShowsSettled doubt clean cut stable shown) = absurd cc
no_doubt l s p w image (ShowsTrimmed doubt shown) = absurd cc

same_doubt : (l : Layout) (s : Setting) (p : Past) (image : List ℕ) (calls : List StoreCall) (n : ℕ) (call : StoreCall) → n ≤ length calls →
    ShowsStep l s p (doubt_in (slice_get calls n)) image → ShowsStep l s p (doubt_in (slice_get (calls ++ call ∷ []) n)) image
same_doubt l s p image [] zero call le shown = no_doubt l s p (doubt_in (Some call)) image shown
same_doubt l s p image [] (suc n) call le shown = absurd (omega (arith, le))
same_doubt l s p image (c ∷ calls) zero call le shown = shown
same_doubt l s p image (c ∷ calls) (suc n) call le shown = same_doubt l s p image calls n call (omega (arith, le)) shown

pub some_of_more : (l : Layout) (s : Setting) (p : Past) (calls : List StoreCall) (call : StoreCall) (image : List ℕ) → ShowsAfterSome l s p calls image → ShowsAfterSome l s p (calls ++ call ∷ []) image
some_of_more l s p calls call image some = let within = some.within in record {
  n = some.n;
  within = omega (arith, within, length-append calls (call ∷ []));
  then = some.then;
  made = subst (λ (cs : List StoreCall). MakeAll s p cs some.then) (same_first calls some.n call some.within) some.made;
  is = some.is;
  of_lanes = some.of_lanes;
  shows = same_doubt l s some.then image calls some.n call some.within some.shows;
}
