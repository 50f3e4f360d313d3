use Rattle.std.proofs.Common.{rules, ◌≡◌, ◌<◌, ◌-◌, ◌+◌, ◌∙◌, ℕ, [], ◌∷◌, ◌++◌, Some, ap, sym, subst, cond, map, drop, reverse, length, refl, arith}
use Rattle.std.specs.Prelude.{nat_eq, slice_get}
use Rattle.std.proofs.lemmas.Option.{slice_get_read}
use Rattle.indexmap.specs.IndexMap.{get}
use Rattle.source_nodes.specs.Chains.{IsChained}
use Rattle.source_nodes.proofs.ChainLemmas.{chain_push}
use Rattle.lower_members.specs.MethodHashes.{signed_hash}
use Rattle.lower_members.specs.SignedMethods.{signed}
use Rattle.lower_members.proofs.FirstSigned.{at_map, entered_next}
use Rattle.lower_members.proofs.method_tables.MethodTable.new.Goals as goal

pub loop-more-preserved : goal.loop-more-preserved
loop-more-preserved c =
    let methods = c.args.methods.now in
    let ys = map signed methods in
    let more = c.loop-more.more in
    let method = c.index-methods-more.result in
    let less : more - 1 < length methods = omega (arith, c.loop-more-test.true, c.loop-more.invariant.within) in
    let read : slice_get methods (more - 1) ≡ Some method = slice_get_read methods (length methods) (more - 1) method refl less c.index-methods-more.is in
    let back : more - 1 + 1 ≡ more = omega (arith, c.loop-more-test.true) in
    let items : reverse (drop (more - 1) ys) ≡ reverse (drop more ys) ++ signed method ∷ [] =
    entered_next ys (more - 1) (signed method) (at_map signed methods (more - 1) method read) ∙ ap (λ k. reverse (drop k ys) ++ signed method ∷ []) back in
    let hash : c.signed_hash-hash.result ≡ signed_hash (signed method) = search rules in
    let newest : (q : ℕ) → get nat_eq c.insert.new.self q ≡ cond (nat_eq (signed_hash (signed method)) q) (Some c.len-place.result) (get nat_eq c.loop-more.newest q) = search rules in
    let next : c.copied-next.result ≡ get nat_eq c.loop-more.newest (signed_hash (signed method)) =
    c.copied-next.ensures ∙ c.get.ensures.value ∙ ap (get nat_eq c.loop-more.newest) hash in
    let nexts : c.push.new.self ≡ c.loop-more.nexts ++ c.copied-next.result ∷ [] = c.in_ok-push.ensures.ok in
    record {
      within = omega (arith, less);
      chained = subst (λ xs. IsChained signed_hash (get nat_eq c.insert.new.self) xs c.push.new.self) (sym items)
          (subst (IsChained signed_hash (get nat_eq c.insert.new.self) (reverse (drop more ys) ++ signed method ∷ [])) (sym nexts)
          (chain_push signed_hash (get nat_eq c.loop-more.newest) (get nat_eq c.insert.new.self) (reverse (drop more ys)) c.loop-more.nexts (signed method) c.len-place.result
          c.copied-next.result c.loop-more.invariant.chained (c.len-place.ensures ∙ c.loop-more.invariant.chained.paired) next newest));
    }

pub invariant_of-result : goal.invariant_of-result
invariant_of-result c =
    let done : c.loop-more.more ≡ 0 = omega (arith, c.loop-more-test.false) in
    subst (λ k. IsChained signed_hash (get nat_eq c.loop-more.newest) (reverse (drop k (map signed c.args.methods.now))) c.loop-more.nexts) done c.loop-more.invariant.chained
