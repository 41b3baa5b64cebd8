-- What is known of what lies beside an image's path (this project's own).
use Rattle.std.specs.Prelude.{ℕ, ◌≡◌, ◌≢◌, ◌⊎◌, ◌++◌, Bool, true, false, List, [], ◌∷◌, Option, None, Some, IfSome, Result, Ok, Err, codes}
use Rattle.disk_sector_file.specs.declared.image_kind.ImageKind.{ImageKind}
use Rattle.image_file.specs.Images.{IsThere}

-- the path at which an image that is replaced is kept
abbrev pub kept_at : List ℕ → List ℕ
kept_at path = path ++ codes "~"

-- those of the files that are at work while it is replaced: the new image, and the old one on its way to where it is kept
abbrev pub made_at : List ℕ → List ℕ
made_at path = path ++ codes ".heapctl-new"

abbrev pub passing_at : List ℕ → List ℕ
passing_at path = path ++ codes ".heapctl-old"

-- another path than these and the image's
pub record IsElsewhere (path other : List ℕ) : Type 0 where
  pub image : other ≢ path
  pub kept : other ≢ kept_at path
  pub made : other ≢ made_at path
  pub passing : other ≢ passing_at path

-- what is known to be at a path was there before
abbrev pub Remains : (had has : Option (List ℕ)) → Type 0
Remains had has = IfSome has (λ there. had ≡ Some there)

-- so it is at each path elsewhere
abbrev pub OthersRemain : (path : List ℕ) (had has : List ℕ → Option (List ℕ)) → Type 0
OthersRemain path had has = (other : List ℕ) → IsElsewhere path other → Remains (had other) (has other)

-- it is known to lie as it was known to lie
abbrev pub LiesStill : (lay lies : Option ImageKind) → Type 0
LiesStill lay lies = IfSome lay (λ was. IfSome lies (λ there. there ≡ was))

-- it is known to lie so, if it is known
abbrev pub LiesOn : (kind : ImageKind) (lies : Option ImageKind) → Type 0
LiesOn kind lies = IfSome lies (λ there. there ≡ kind)

-- what is kept beside a path whose image, which was this one, was replaced: that image, if it is to be kept, and else what was kept before
abbrev pub IsKept : (is_kept : Bool) → (was had has : Option (List ℕ)) → Type 0
IsKept false was had has = Remains had has
IsKept true None had has = Unit {0}
IsKept true (Some []) had has = Remains had has
IsKept true (Some (byte ∷ bytes)) had has = IsThere (byte ∷ bytes) has

-- nothing replaces the image: it lies as it did, what is kept beside it remains, and what is elsewhere too
pub record LeavesBeside (path : List ℕ) (had has : List ℕ → Option (List ℕ)) (lay lies : List ℕ → Option ImageKind) : Type 0 where
  pub kept : Remains (had (kept_at path)) (has (kept_at path))
  pub others : OthersRemain path had has
  pub lies_so : lies path ≡ lay path

-- another may have replaced it, which lies as it did
pub record StaysBeside (path : List ℕ) (had has : List ℕ → Option (List ℕ)) (lay lies : List ℕ → Option ImageKind) : Type 0 where
  pub kept : Remains (had (kept_at path)) (has (kept_at path))
  pub others : OthersRemain path had has
  pub lies_so : LiesStill (lay path) (lies path)

-- a new one may have replaced it, and the old one may be kept for that
pub record KeepsBeside (is_kept : Bool) (path : List ℕ) (had has : List ℕ → Option (List ℕ)) : Type 0 where
  pub kept : Remains (had (kept_at path)) (has (kept_at path)) ⊎ IsKept is_kept (had path) (had (kept_at path)) (has (kept_at path))
  pub others : OthersRemain path had has

-- and the old one is kept where a new one has replaced it, if it is to be
abbrev pub MakesBeside : {T E : Type 0} (is_kept : Bool) → Result T E → (path : List ℕ) (had has : List ℕ → Option (List ℕ)) → Type 0
MakesBeside is_kept (Ok done) path had has = KeepsBeside is_kept path had has × IsKept is_kept (had path) (had (kept_at path)) (has (kept_at path))
MakesBeside is_kept (Err why) path had has = KeepsBeside is_kept path had has

-- the same, by what images were there before and are now, and how they lay and lie
abbrev pub LeavesBesideIt : {P : Type 0} (path : List ℕ) (holds : P → List ℕ → Option (List ℕ))
    (lies : P → List ℕ → Option ImageKind) (old new : P) → Type 0
LeavesBesideIt path holds lies old new = LeavesBeside path (holds old) (holds new) (lies old) (lies new)

abbrev pub StaysBesideIt : {P : Type 0} (path : List ℕ) (holds : P → List ℕ → Option (List ℕ))
    (lies : P → List ℕ → Option ImageKind) (old new : P) → Type 0
StaysBesideIt path holds lies old new = StaysBeside path (holds old) (holds new) (lies old) (lies new)
