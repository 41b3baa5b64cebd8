-- The fields of a pool spell its free list, wherever they stand among a heap's.
use Rattle.std.proofs.Common.{ℕ, ◌≡◌, ◌+◌, ◌<◌, ◌≤◌, List, ◌++◌, length, map, slice_get, get_or, Some, ap, ◌∙◌, subst, length-append, arith}
use Rattle.std.proofs.lemmas.List.{get_or-append-add, get_or_append_left}
use Rattle.std.proofs.lemmas.Option.{slice_get-map, slice_get-get_or}
use Rattle.std.specs.List.{range_with_len}
use Rattle.std.specs.Option.{option_map}
use Rattle.pool.specs.FreeList.{IsFreeList}
use Rattle.pool.specs.Numbered.{FreeLaw, cell_first}
use Rattle.zelamiku.specs.PoolDoors.{AreFreeAnywhere, ArePoolFields, pool_at, pool_field}
use Rattle.zelamiku.specs.declared.words.Field.{Field}

first_there : (object n : ℕ) (fields earlier later : List Field) → ArePoolFields object n fields → (cell : ℕ) → cell ≤ n
    → slice_get (map (λ (f : Field). f.first) (earlier ++ (fields ++ later))) (length earlier + cell) ≡ Some (cell_first n cell)
first_there object n fields earlier later are cell low =
    let xs = earlier ++ (fields ++ later) in
    let i = length earlier + cell in
    let d : Field = pool_field object n cell in
    let count = are.count in
    let here : cell < length fields = omega arith in
    let inside : i < length xs = omega (arith, length-append earlier (fields ++ later), length-append fields later) in
    let read : get_or xs i d ≡ d = get_or-append-add earlier (fields ++ later) cell d ∙ get_or_append_left fields later d cell here ∙ are.each cell d (omega arith) in
    slice_get-map (λ (f : Field). f.first) xs i ∙ ap (option_map (λ (f : Field). f.first)) (slice_get-get_or xs i d inside ∙ ap Some read)

pub free_anywhere : FreeLaw → (object n : ℕ) (fields : List Field) → 0 < n → ArePoolFields object n fields → AreFreeAnywhere fields
free_anywhere law object n fields some are = λ slots earlier later long.
    let known = slice_get (map (λ (f : Field). f.first) (earlier ++ (fields ++ later))) in
    let count = are.count in
    let same : n ≡ slots = omega arith in
    subst (λ (k : ℕ). IsFreeList (pool_at (length earlier) k) known (range_with_len 0 k)) same
    (law (pool_at (length earlier) n) known some (λ cell low. first_there object n fields earlier later are cell low))
