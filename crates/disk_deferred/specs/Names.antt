-- Which ring it is, in numbers: equal ones are of the two ends of one ring, and of no other (this project's own).
use Rattle.std.specs.Prelude.{ℕ, List, [], ◌∷◌}
use denote.RawPtr.{Ptr, block_ptr, null_ptr, block_of, count_of}
use Rattle.rtrb.specs.declared.end.End.{End}

-- whether it is a place in memory, or none
abbrev pub kind_of : Ptr → ℕ
kind_of (block_ptr b o) = 1
kind_of null_ptr = 0

-- where its words and its slots are, and the names of what each of its ends knows
abbrev pub name_of : {T A P : Type 0} → End T A P → List ℕ
name_of e =
    kind_of e.words ∷ block_of e.words ∷ count_of e.words ∷ kind_of e.slots ∷ block_of e.slots ∷ count_of e.slots ∷ e.names.0 ∷ e.names.1.0 ∷ e.names.1.1 ∷ []
