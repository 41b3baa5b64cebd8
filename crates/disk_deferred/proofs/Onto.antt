-- Calls onto stops.
use Rattle.std.proofs.Common.{◌≡◌, ℕ, ◌+◌, List, [], ◌∷◌, ◌++◌, length, drop, refl, sym, ◌∙◌, ap, subst, arith, fold, Option, Some, None, option_to_list}
use Rattle.std.proofs.lemmas.List.{drop-drop}
use Rattle.std.proofs.lemmas.List.Sums.{fold-append}
use Rattle.block_disk.specs.Memory.{Stop}
use Rattle.disk_deferred.specs.Deferred.{stop_of, onto, calls_in, stops_in}
use Rattle.disk_deferred.specs.Host.{made_of, IsInOrder}
use Rattle.disk_deferred.specs.declared.call.DeviceCall.{DeviceCall}
use Rattle.disk_deferred.specs.declared.call.Handed.{Handed}

-- the older stops are what is left behind the calls
pub drop_onto : (older : List Stop) (cs : List DeviceCall) → drop (length cs) (onto older cs) ≡ older
drop_onto older [] = refl
drop_onto older (c ∷ cs) =
    let more : length (c ∷ cs) ≡ length cs + 1 = omega arith in
    let all = onto older (c ∷ cs) in
    ap (λ (n : ℕ). drop n all) more ∙ sym (drop-drop 1 (length cs) all) ∙ ap (drop 1) (drop_onto (stop_of c ∷ older) cs)

-- with one call fewer left, it is made
pub made_more : (handed : List Handed) (c : DeviceCall) (later : List DeviceCall) → IsInOrder handed (c ∷ later) → made_of handed later ≡ stop_of c ∷ made_of handed (c ∷ later)
made_more handed c later is = ap (drop (length later)) (sym is) ∙ drop_onto (stop_of c ∷ made_of handed (c ∷ later)) later

pub order_more : (handed : List Handed) (c : DeviceCall) (later : List DeviceCall) → IsInOrder handed (c ∷ later) → IsInOrder handed later
order_more handed c later is = ap (λ (m : List Stop). onto m later) (made_more handed c later is) ∙ is

-- whatever was taken from the front
pub order_popped : (handed : List Handed) (o : Option DeviceCall) (left later : List DeviceCall) → left ≡ option_to_list o ++ later → IsInOrder handed left → IsInOrder handed later
order_popped handed None left later is order = subst (IsInOrder handed) is order
order_popped handed (Some c) left later is order = order_more handed c later (subst (IsInOrder handed) is order)

-- calls that were taken where none was left
pub made_fetched : (old new : List Handed) (calls : List DeviceCall) → stops_in new ≡ onto (stops_in old) calls → made_of new calls ≡ stops_in old
made_fetched old new calls is = ap (drop (length calls)) is ∙ drop_onto (stops_in old) calls

pub order_fetched : (old new : List Handed) (calls : List DeviceCall) → stops_in new ≡ onto (stops_in old) calls → IsInOrder new calls
order_fetched old new calls is = ap (λ (m : List Stop). onto m calls) (made_fetched old new calls is) ∙ sym is

-- the calls of all of these
abbrev pub all_in : List Handed → List DeviceCall
all_in [] = []
all_in (b ∷ bs) = calls_in b ++ all_in bs

pub onto_append : (older : List Stop) (xs ys : List DeviceCall) → onto older (xs ++ ys) ≡ onto (onto older xs) ys
onto_append older xs ys = fold-append (λ before call. stop_of call ∷ before) older xs ys

pub onto_all : (older : List Stop) (handed : List Handed) → fold (λ before batch. onto before (calls_in batch)) older handed ≡ onto older (all_in handed)
onto_all older [] = refl
onto_all older (b ∷ bs) = onto_all (onto older (calls_in b)) bs ∙ sym (onto_append older (calls_in b) (all_in bs))

-- what is still in the ring comes after what was taken
pub stops_later : (taken known : List Handed) → stops_in (taken ++ known) ≡ onto (stops_in taken) (all_in known)
stops_later taken known = fold-append (λ before batch. onto before (calls_in batch)) [] taken known ∙ onto_all (stops_in taken) known
