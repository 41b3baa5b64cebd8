-- Lines of fields, and assignments, one name after the other.
use Rattle.std.proofs.Common.{ℕ, ◌≡◌, ◌+◌, ◌<◌, ◌⊎◌, Option, List, [], Err, drop, length, get_or, refl, sym, subst, inl, inr, ◌∙◌}
use Rattle.std.proofs.lemmas.List.{drop_more}
use Rattle.std.proofs.lemmas.Option.{slice_get-get_or}
use Rattle.std.specs.Borrow.{Bor}
use Rattle.guards.specs.Schema.{Declarations}
use Rattle.script_images.specs.Assigning.{HasAssignments, IsAssigned, IsPlanned, IsPlayedPlan, IsSetOver, Misses, MissesAt, RefusesPlayed, RefusesTexts, RefusesToSet, told_of_miss}
use Rattle.script_images.specs.Values.{GetsBy, HasLine, HasLines, HasNoField, IsNoField, RefusesHeldValues, RefusesNames, RefusesStudied, RefusesStudy, RefusesValues}
use Rattle.std.specs.Io.KnownBytes.{Appends}
use Rattle.image_file.specs.Images.{BeginsThere, IsThere}
use Rattle.image_file.specs.Naming.{IsNamedBy}
use Rattle.image_file.specs.declared.error.ImageFault.TheVariants as images
use Rattle.image_file.specs.declared.error.NamedFault.TheVariants as named
use Rattle.image_schema.specs.OfImage.{named_as}
use Rattle.recover.specs.Reading.{RefusesImage}
use Rattle.recover.specs.Study.{IsStudyOf}
use Rattle.recover.specs.declared.studied.Study.{Study}
use Rattle.script_images.specs.declared.assigning.Miss.{Miss}
use Rattle.script_images.specs.declared.assigning.Miss.TheVariants as miss
use Rattle.script_images.specs.declared.error.SetFault.{SetFault}
use Rattle.script_images.specs.declared.error.ValueFault.{ValueFault}
use Rattle.script_images.specs.declared.error.ValueFault.TheVariants as values

-- one more line
pub lines_more : (schema : Declarations) (heap : List ℕ) (names : List (Bor (List ℕ))) (place : ℕ) (d : Bor (List ℕ)) → place < length names → (text more new : List ℕ)
    → HasLine schema heap (get_or names place d).now text more → HasLines schema heap (drop (place + 1) names) more new → HasLines schema heap (drop place names) text new
lines_more schema heap names place d within text more new line rest = subst (λ (l : List (Bor (List ℕ))). HasLines schema heap l text new) (sym (drop_more names place d within)) (more, line, rest)

-- a name of no field
pub none_here : (schema : Declarations) (heap : List ℕ) (names : List (Bor (List ℕ))) (place : ℕ) (d : Bor (List ℕ)) → place < length names
    → IsNoField schema heap (get_or names place d).now → HasNoField schema heap names place
none_here schema heap names place d within none = record { name = get_or names place d; there = slice_get-get_or names place d within; none = none }

module _ (schema : Declarations) (texts : List (Bor (List ℕ))) (place : ℕ) (d : Bor (List ℕ)) (within : place < length texts) where
  -- one more assignment
  pub assigned_next : (lines ends values l e h : List ℕ) → IsAssigned schema (get_or texts place d).now lines ends values l e h → (lines_new ends_new values_new : List ℕ)
      → HasAssignments schema (drop (place + 1) texts) l e h lines_new ends_new values_new → HasAssignments schema (drop place texts) lines ends values lines_new ends_new values_new
  assigned_next lines ends values l e h assigned lines_new ends_new values_new rest =
      subst (λ (t : List (Bor (List ℕ))). HasAssignments schema t lines ends values lines_new ends_new values_new) (sym (drop_more texts place d within)) (l, e, h, assigned, rest)

  -- a word that misses
  pub misses_here : (why : Miss) → Misses schema (get_or texts place d).now why → MissesAt schema texts place why
  misses_here why misses = record { text = get_or texts place d; there = slice_get-get_or texts place d within; misses = misses }

-- how it is told
pub told_refuses : (schema : Declarations) (texts : List (Bor (List ℕ))) (why : Miss) (place : ℕ) → MissesAt schema texts place why → RefusesTexts schema texts (told_of_miss why place)
told_refuses schema texts miss.Word place misses = misses
told_refuses schema texts miss.Unknown place misses = misses
told_refuses schema texts miss.Transient place misses = misses
told_refuses schema texts miss.NoMemory place misses = refl

-- what a refusal to tell of the names says of the study
pub names_refused : (given : Option Declarations) (names : List (Bor (List ℕ))) (s : Study) (fault : ValueFault)
    → RefusesNames (named_as given s) s.heap.items names fault → RefusesStudied given names s fault
names_refused given names s (values.Named why) refused = subst (RefusesStudy given s) (sym refused) refl
names_refused given names s (values.Unknown place) refused = refused
names_refused given names s values.Write refused = absurd refused

-- what a refusal to tell of a study says of the image
pub none_of : (given : Option Declarations) (names : List (Bor (List ℕ))) (image : List ℕ) (s : Study) → IsStudyOf image s → (fault : ValueFault)
    → RefusesStudied given names s fault → RefusesValues given names image fault
none_of given names image s studied (values.Named (named.Image (images.Image why))) refused = subst (RefusesImage image) (sym refused) tt
none_of given names image s studied (values.Named (named.Image images.InUse)) refused = absurd refused
none_of given names image s studied (values.Named (named.Schema why)) refused = absurd refused
none_of given names image s studied (values.Named named.OtherSchema) refused = record { study = s; studied = studied; other = refused }
none_of given names image s studied (values.Unknown place) refused = record { study = s; studied = studied; none = refused }
none_of given names image s studied values.Write refused = absurd refused

-- and of the one that is there
pub none_there : (given : Option Declarations) (names : List (Bor (List ℕ))) (image : List ℕ) (had : Option (List ℕ)) → BeginsThere image had → (fault : ValueFault)
    → RefusesValues given names image fault → RefusesHeldValues given names had fault
none_there given names image had begins (values.Named why) refused = inr (record { image = image; begins = begins; refused = refused })
none_there given names image had begins (values.Unknown place) refused = record { image = image; begins = begins; refused = refused }
none_there given names image had begins values.Write refused = absurd refused

-- nothing was written
pub none_got : {P : Type 0} (path : Option P) (given : Option Declarations) (names : List (Bor (List ℕ))) (had has old new : Option (List ℕ)) → IsNamedBy path given
    → (fault : ValueFault) → RefusesHeldValues given names had fault → has ≡ had → Appends old new [] → GetsBy path names (Err fault) had has old new
none_got path given names had has old new is_named (values.Named why) refused same silent = (inr (record { given = given; is_named = is_named; refused = refused }), same, silent)
none_got path given names had has old new is_named (values.Unknown place) refused same silent = (record { given = given; is_named = is_named; none = refused }, same, silent)
none_got path given names had has old new is_named values.Write refused same silent = absurd refused

-- the lines of the section were played, or not
module _ (given : Option Declarations) (texts : List (Bor (List ℕ))) (image : List ℕ) (schema : Declarations) (lines heap : List ℕ) where
  pub set_plan : (script values left text : List ℕ) → IsPlanned given texts image schema lines heap → script ≡ lines → values ≡ heap
      → IsPlayedPlan schema script values image left text → IsSetOver given texts image left text
  set_plan script values left text planned scripted valued played = record {
    schema = schema;
    lines = lines;
    heap = heap;
    planned = planned;
    played = subst (λ (l : List ℕ). IsPlayedPlan schema l heap image left text) scripted (subst (λ (h : List ℕ). IsPlayedPlan schema script h image left text) valued played);
  }

  pub unset_plan : (script : List ℕ) (fault : SetFault) → IsPlanned given texts image schema lines heap → script ≡ lines → RefusesPlayed schema script image fault
      → RefusesToSet given texts image fault
  unset_plan script fault planned scripted refused = inr (record {
    schema = schema;
    lines = lines;
    heap = heap;
    planned = planned;
    refused = subst (λ (l : List ℕ). RefusesPlayed schema l image fault) scripted refused;
  })

-- the image that isn't replaced, or the new one
pub still_there : (had mid has : Option (List ℕ)) (wrote left : List ℕ) → mid ≡ had → wrote ≡ left → (has ≡ mid) ⊎ IsThere wrote has → (has ≡ had) ⊎ IsThere left has
still_there had mid has wrote left same all (inl kept) = inl (kept ∙ same)
still_there had mid has wrote left same all (inr there) = inr (subst (λ (l : List ℕ). IsThere l has) all there)
