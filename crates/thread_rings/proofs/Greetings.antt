-- Items behind a greeting.
use Rattle.std.proofs.Common.{◌≡◌, ◌+◌, if◌then◌else◌, Bool, true, false, reverse, List, [], ◌∷◌, ◌++◌, Some, length, refl, sym, ap, ◌∙◌, arith}
use Rattle.std.proofs.lemmas.List.{reverse-append, reverse-reverse}
use mathlib.Core.List.{IsPrefix}
use Rattle.heap_model.specs.declared.record.Record.{Record}
use Rattle.monitor.specs.declared.view.Role.{Role}
use Rattle.monitor.specs.declared.view.Role.TheVariants.{Worker, Helper, Witness, Spent}
use Rattle.monitor.specs.declared.view.View.{View}
use Rattle.monitor.specs.Views.{lane_in, lane_of, witness_role, witness_for}
use Rattle.monitor.specs.Seats.{Sitting}
use Rattle.thread_rings.specs.declared.sent.Sent.{Sent}
use Rattle.thread_rings.specs.Following.{Follows, Tells, Whose, from_release, greeted, is_release, logged_in, records_of, to_release, whose}
use Rattle.thread_rings.specs.Rings.{behind}

role_lane : (r : Role) → lane_in (witness_role r) ≡ lane_in r
role_lane (Worker l) = refl
role_lane (Helper n) = refl
role_lane (Witness l) = refl
role_lane Spent = refl

-- a witness is of its seat's lane
pub same_whose : (s w : Sitting) → w.table ≡ s.table → w.view ≡ witness_for s.view → whose w ≡ whose s
same_whose s w table is =
    let plan : w.view.plan ≡ s.view.plan = ap (λ (z : View). z.plan) is in
    let lane : lane_of w.view ≡ lane_of s.view = ap (λ (z : View). lane_in z.role) is ∙ role_lane s.view.role in
    λ i. record { table = table i; plan = plan i; lane = lane i }

pub same_log : (s w : Sitting) → w.view ≡ witness_for s.view → logged_in w.view ≡ logged_in s.view
same_log s w is = ap (λ (z : View). logged_in z) is

pub records_more : (xs ys : List Sent) → records_of (xs ++ ys) ≡ records_of xs ++ records_of ys
records_more [] ys = refl
records_more (x ∷ xs) ys = ap (λ (l : List Record). x.entry ∷ l) (records_more xs ys)

pub records_length : (xs : List Sent) → length (records_of xs) ≡ length xs
records_length [] = refl
records_length (x ∷ xs) = let e = records_length xs in omega arith

pub records_prefix : (xs ys : List Sent) → IsPrefix xs ys → IsPrefix (records_of xs) (records_of ys)
records_prefix xs ys p = (records_of p.0, sym (records_more xs p.0) ∙ ap (λ (l : List Sent). records_of l) p.1)

-- what comes behind a greeting leaves it the greeting

pub greeted_more : (xs ys : List Sent) (w : Whose) → greeted xs ≡ Some w → greeted (xs ++ ys) ≡ greeted xs
greeted_more [] ys w e = absurd cc
greeted_more (g ∷ xs) ys w e = refl

pub behind_more : (xs ys : List Sent) (w : Whose) → greeted xs ≡ Some w → behind (xs ++ ys) ≡ behind xs ++ records_of ys
behind_more [] ys w e = absurd cc
behind_more (g ∷ xs) ys w e = records_more xs ys

pub behind_length : (xs : List Sent) (w : Whose) → greeted xs ≡ Some w → length xs ≡ length (behind xs) + 1
behind_length [] w e = absurd cc
behind_length (g ∷ xs) w e = let n = records_length xs in omega arith

-- what may be sent

pub follows_silent : (before : List Sent) (x : Sent) → is_release x.entry ≡ false → Follows before x
follows_silent [] x no_ = tt
follows_silent (g ∷ before) x no_ = λ is. absurd (let clash : true ≡ false = sym is ∙ no_ in cc)

pub follows_told : (before : List Sent) (x : Sent) (w : Sitting) → x.told ≡ w ∷ [] → greeted before ≡ Some (whose w) → logged_in w.view ≡ behind before ++ x.entry ∷ [] → Follows before x
follows_told [] x w told of log = tt
follows_told (g ∷ before) x w told of log = λ is. (w, told, of, log)

-- and what is known of it where it is taken
pub tells_taken : (before : List Sent) (x : Sent) (of : Whose) → greeted before ≡ Some of → Follows before x → is_release x.entry ≡ true → Tells (greeted before) (behind before ++ x.entry ∷ []) x.told
tells_taken [] x of e f is = absurd cc
tells_taken (g ∷ before) x of e f is = f is

-- a log up to its last release, with one record more

from_more : (log : List Record) (r : Record) (b : Bool) → is_release r ≡ b → from_release (reverse (log ++ r ∷ [])) ≡ (if b then r ∷ reverse log else from_release (reverse log))
from_more log r b is = ap (λ (l : List Record). from_release l) (reverse-append log (r ∷ [])) ∙ ap (λ (z : Bool). if z then r ∷ reverse log else from_release (reverse log)) is

pub to_more : (log : List Record) (r : Record) → is_release r ≡ true → to_release (log ++ r ∷ []) ≡ log ++ r ∷ []
to_more log r is = ap (λ (l : List Record). reverse l) (from_more log r true is ∙ sym (reverse-append log (r ∷ []))) ∙ reverse-reverse (log ++ r ∷ [])

pub to_same : (log : List Record) (r : Record) → is_release r ≡ false → to_release (log ++ r ∷ []) ≡ to_release log
to_same log r is = ap (λ (l : List Record). reverse l) (from_more log r false is)
