use Rattle.std.proofs.Common.{◌≡◌, ◌∙◌, [], ap, codes, map, rules}
use Rattle.std.proofs.lemmas.Result.{IfOk-weaker}
use Rattle.clap.specs.Matches.{found_of}
use Rattle.clap.specs.Walk.{all_of, rows_of}
use Rattle.clap.proofs.WalkLemmas.{raw_values-rows}
use Rattle.heapctl_words.proofs.OptionLemmas.{strs_missing, strs_there}
use Rattle.heapctl_words.proofs.words.found_names.Goals as goal

pub returns-in-Some : goal.returns-in-Some
returns-in-Some c =
    let f = found_of c.args.found.now in
    let there = strs_there c.get_strs.result c.in-Some.names (all_of (codes "names") (rows_of f)) c.in-Some.is (c.get_strs.ensures ∙ raw_values-rows f (codes "names")) in
    IfOk-weaker c.to_vec.result _ _ (λ names same. ap (map (λ s. s.now)) (same (λ x y e. e)) ∙ there) c.to_vec.ensures.items_if_clones_equal

pub returns-in-None : goal.returns-in-None
returns-in-None c =
    let f = found_of c.args.found.now in
    let none : c.new.result.items ≡ [] = search rules in
    ap (map (λ s. s.now)) none ∙ strs_missing c.get_strs.result (all_of (codes "names") (rows_of f)) c.in-None.is (c.get_strs.ensures ∙ raw_values-rows f (codes "names"))
