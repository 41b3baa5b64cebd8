-- Lanes' live records, one lane after the other.
use Rattle.std.proofs.Common.{ℕ, ◌≡◌, ◌<◌, ◌≤◌, ◌++◌, List, [], ◌∷◌, length, map, get_or, refl, sym, ap, ◌∙◌, arith, Vec, Global}
use Rattle.std.proofs.lemmas.List.{get_or_append_left, get_or_push, get_or_past, get_or-map, length-map}
use Rattle.heap_model.specs.declared.record.UndoRecord.{UndoRecord}
use Rattle.recover_logs.specs.Logs.{records_of}

map_snoc : {X Y : Type 0} (f : X → Y) (xs : List X) (y : X) → map f (xs ++ y ∷ []) ≡ map f xs ++ f y ∷ []
map_snoc f [] y = refl
map_snoc {X} {Y} f (x ∷ xs) y = ap (λ (ys : List Y). f x ∷ ys) (map_snoc f xs y)

-- the lanes that were there before another came
pub records_before : (logs : List (Vec UndoRecord Global)) (v : Vec UndoRecord Global) (m : ℕ) → m < length logs → records_of (logs ++ v ∷ []) m ≡ records_of logs m
records_before logs v m lt =
    let items = λ (x : Vec UndoRecord Global). x.items in
    ap (λ (xs : List (List UndoRecord)). get_or xs m []) (map_snoc items logs v) ∙ get_or_append_left (map items logs) (v.items ∷ []) [] m (omega (arith, length-map logs items))

-- the lane that came
pub records_new : (logs : List (Vec UndoRecord Global)) (v : Vec UndoRecord Global) (m : ℕ) → length logs ≡ m → records_of (logs ++ v ∷ []) m ≡ v.items
records_new logs v m is =
    let items = λ (x : Vec UndoRecord Global). x.items in
    ap (λ (xs : List (List UndoRecord)). get_or xs m []) (map_snoc items logs v) ∙ get_or_push (map items logs) v.items [] m (length-map logs items ∙ is)

-- there are no more lanes
pub records_past : (logs : List (Vec UndoRecord Global)) (m : ℕ) → length logs ≤ m → records_of logs m ≡ []
records_past logs m le = get_or_past (map (λ (x : Vec UndoRecord Global). x.items) logs) m [] (omega (arith, length-map logs (λ (x : Vec UndoRecord Global). x.items)))

-- a lane that is read
pub records_read : (logs : List (Vec UndoRecord Global)) (m : ℕ) (v : Vec UndoRecord Global) → m < length logs → v ≡ get_or logs m v → v.items ≡ records_of logs m
records_read logs m v lt is =
    let items = λ (x : Vec UndoRecord Global). x.items in
    ap items is ∙ sym (get_or-map items logs m v [] lt)
