-- What is known of what lies beside a path, call by call.
use Rattle.std.proofs.Common.{ℕ, ◌⊎◌, Bool, true, false, List, [], ◌∷◌, Option, None, Some, inl, inr, subst, sym, ◌∙◌}
use Rattle.disk_sector_file.specs.declared.image_kind.ImageKind.{ImageKind}
use Rattle.image_file.specs.Beside.{IsKept, KeepsBeside, LeavesBeside, LiesStill, OthersRemain, Remains, StaysBeside, kept_at}
use Rattle.image_file.specs.Images.{IsThere}

-- what is at one path

remains_then : (had mid has : Option (List ℕ)) → Remains had mid → Remains mid has → Remains had has
remains_then had mid None first later = tt
remains_then had mid (Some there) first later = subst (λ (m : Option (List ℕ)). Remains had m) later first

there_then : (bytes : List ℕ) (mid has : Option (List ℕ)) → IsThere bytes mid → Remains mid has → IsThere bytes has
there_then bytes mid None there later = tt
there_then bytes mid (Some has) there later = subst (λ (m : Option (List ℕ)). IsThere bytes m) later there

-- what is kept, where another call comes after

kept_after : (is_kept : Bool) (was had mid has : Option (List ℕ)) → IsKept is_kept was had mid → Remains mid has → IsKept is_kept was had has
kept_after false was had mid has kept later = remains_then had mid has kept later
kept_after true None had mid has kept later = tt
kept_after true (Some []) had mid has kept later = remains_then had mid has kept later
kept_after true (Some (byte ∷ bytes)) had mid has kept later = there_then (byte ∷ bytes) mid has kept later

-- calls on a path

others_then : (path : List ℕ) (had mid has : List ℕ → Option (List ℕ)) → OthersRemain path had mid → OthersRemain path mid has → OthersRemain path had has
others_then path had mid has first later = λ other is. remains_then (had other) (mid other) (has other) (first other is) (later other is)

pub leaves_then : {path : List ℕ} {had mid has : List ℕ → Option (List ℕ)} {lay kind lies : List ℕ → Option ImageKind}
    → LeavesBeside path had mid lay kind → LeavesBeside path mid has kind lies → LeavesBeside path had has lay lies
leaves_then {path} {had} {mid} {has} first later = record {
  kept = remains_then (had (kept_at path)) (mid (kept_at path)) (has (kept_at path)) first.kept later.kept;
  others = others_then path had mid has first.others later.others;
  lies_so = later.lies_so ∙ first.lies_so;
}

kept_or_after : (is_kept : Bool) (was had mid has : Option (List ℕ)) → Remains had mid ⊎ IsKept is_kept was had mid → Remains mid has → Remains had has ⊎ IsKept is_kept was had has
kept_or_after is_kept was had mid has (inl remains) later = inl (remains_then had mid has remains later)
kept_or_after is_kept was had mid has (inr kept) later = inr (kept_after is_kept was had mid has kept later)

-- the place of the image may be taken before another call
pub keeps_before : {is_kept : Bool} {path : List ℕ} {had mid has : List ℕ → Option (List ℕ)} {kind lies : List ℕ → Option ImageKind} → KeepsBeside is_kept path had mid
    → LeavesBeside path mid has kind lies → KeepsBeside is_kept path had has
keeps_before {is_kept} {path} {had} {mid} {has} first later = record {
  kept = kept_or_after is_kept (had path) (had (kept_at path)) (mid (kept_at path)) (has (kept_at path)) first.kept later.kept;
  others = others_then path had mid has first.others later.others;
}

-- the image may be replaced by one that lies as it did, behind another call or before it
pub stays_after : {path : List ℕ} {had mid has : List ℕ → Option (List ℕ)} {lay kind lies : List ℕ → Option ImageKind} → LeavesBeside path had mid lay kind
    → StaysBeside path mid has kind lies → StaysBeside path had has lay lies
stays_after {path} {had} {mid} {has} {lay} {kind} {lies} first later = record {
  kept = remains_then (had (kept_at path)) (mid (kept_at path)) (has (kept_at path)) first.kept later.kept;
  others = others_then path had mid has first.others later.others;
  lies_so = subst (λ (was : Option ImageKind). LiesStill was (lies path)) first.lies_so later.lies_so;
}

pub stays_before : {path : List ℕ} {had mid has : List ℕ → Option (List ℕ)} {lay kind lies : List ℕ → Option ImageKind} → StaysBeside path had mid lay kind
    → LeavesBeside path mid has kind lies → StaysBeside path had has lay lies
stays_before {path} {had} {mid} {has} {lay} {kind} {lies} first later = record {
  kept = remains_then (had (kept_at path)) (mid (kept_at path)) (has (kept_at path)) first.kept later.kept;
  others = others_then path had mid has first.others later.others;
  lies_so = subst (λ (now : Option ImageKind). LiesStill (lay path) now) (sym later.lies_so) first.lies_so;
}
