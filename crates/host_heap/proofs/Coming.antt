-- What has come back at the ends stays there, over one look behind another.
use Rattle.std.proofs.Common.{ℕ, zero, suc, ◌≡◌, ◌<◌, List, [], ◌∷◌, ◌++◌, Option, Some, None, IsSome, option_to_list, append-nil, drop, length, set, get_or, refl, sym, ap, ◌∙◌, subst, arith}
use Rattle.rtrb.specs.Ring.{received}
use Rattle.session.specs.declared.session.Session.{Session}
use Rattle.host_heap.specs.Lanes.{KeepCome, KeepsCome}
use Rattle.host_heap.specs.declared.lane_end.LaneEnd.{LaneEnd}

-- nothing has happened
pub same_come : (l : LaneEnd) → KeepsCome l l
same_come l = record {
  ring = ((refl, refl, refl, refl), refl);
  stays = λ some. refl;
  since = λ none. sym (ap (λ (o : Option Session). received l.back ++ option_to_list o) none ∙ append-nil (received l.back));
}

pub all_same : (ls : List LaneEnd) → KeepCome ls ls
all_same [] = tt
all_same (l ∷ ls) = (same_come l, all_same ls)

-- one look behind another
since_both : (a b c : LaneEnd) (o : Option Session) → b.came ≡ o → received b.back ≡ received a.back ++ option_to_list b.came → KeepsCome b c → received c.back ≡ received a.back ++ option_to_list c.came
since_both a b c None is was later =
    later.since is ∙ ap (λ (items : List Session). items ++ option_to_list c.came) (was ∙ ap (λ (o : Option Session). received a.back ++ option_to_list o) is ∙ append-nil (received a.back))
since_both a b c (Some s) is was later =
    let same : c ≡ b = later.stays (subst (λ (o : Option Session). IsSome o) (sym is) refl) in
    subst (λ (l : LaneEnd). received l.back ≡ received a.back ++ option_to_list l.came) (sym same) was

come_twice : (a b c : LaneEnd) → KeepsCome a b → KeepsCome b c → KeepsCome a c
come_twice a b c one two = record {
  ring = ((two.ring.0.0 ∙ one.ring.0.0, two.ring.0.1 ∙ one.ring.0.1, two.ring.0.2 ∙ one.ring.0.2, two.ring.0.3 ∙ one.ring.0.3), two.ring.1 ∙ one.ring.1);
  stays = λ some. let same : b ≡ a = one.stays some in two.stays (subst (λ (l : LaneEnd). IsSome l.came) (sym same) some) ∙ same;
  since = λ none. since_both a b c b.came refl (one.since none) two;
}

pub all_twice : (xs ys zs : List LaneEnd) → KeepCome xs ys → KeepCome ys zs → KeepCome xs zs
all_twice [] [] [] one two = tt
all_twice [] [] (z ∷ zs) one two = absurd two
all_twice [] (y ∷ ys) zs one two = absurd one
all_twice (x ∷ xs) [] zs one two = absurd one
all_twice (x ∷ xs) (y ∷ ys) [] one two = absurd two
all_twice (x ∷ xs) (y ∷ ys) (z ∷ zs) one two = (come_twice x y z one.0 two.0, all_twice xs ys zs one.1 two.1)

-- a look at one of them
pub come_at : (ls : List LaneEnd) (i : ℕ) (l d : LaneEnd) → i < length ls → KeepsCome (get_or ls i d) l → KeepCome ls (set ls i l)
come_at [] i l d low come = absurd (omega (arith, low))
come_at (x ∷ xs) zero l d low come = (come, all_same xs)
come_at (x ∷ xs) (suc i) l d low come = (same_come x, come_at xs i l d (omega (arith, low)) come)

-- at those from a place on
pub come_from : (n : ℕ) (xs ys : List LaneEnd) → KeepCome xs ys → KeepCome (drop n xs) (drop n ys)
come_from zero xs ys come = come
come_from (suc n) [] [] come = tt
come_from (suc n) [] (y ∷ ys) come = absurd come
come_from (suc n) (x ∷ xs) [] come = absurd come
come_from (suc n) (x ∷ xs) (y ∷ ys) come = come_from n xs ys come.1
