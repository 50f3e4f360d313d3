use Rattle.std.proofs.Common.{rules, ◌≡◌, ℕ, [], ◌∷◌, ◌++◌, Some, cond}
use Rattle.std.specs.Prelude.{nat_eq}
use Rattle.indexmap.specs.IndexMap.{get}
use Rattle.type_hierarchy.specs.NameHash.{text_hash}
use Rattle.type_hierarchy.proofs.NameLemmas.{names_push, names_undo}
use Rattle.type_tables.proofs.texts.Texts.push.Goals as goal

pub invariant_of-self-in-Ok : goal.invariant_of-self-in-Ok
invariant_of-self-in-Ok c =
    let old = c.self.inside in
    let newest : (q : ℕ) → get nat_eq c.insert.new.self q ≡ cond (nat_eq (text_hash c.args.text) q) (Some c.len-place.result) (get nat_eq old.newest q) = search rules in
    let names : c.push.new.self ≡ old.texts ++ c.args.text ∷ [] = search rules in
    let nexts : c.push-2.new.self ≡ old.nexts ++ c.copied-next.result ∷ [] = search rules in
    rw (names, nexts) (names_push text_hash (get nat_eq old.newest) (get nat_eq c.insert.new.self) old.texts old.nexts c.args.text c.len-place.result c.copied-next.result
    c.self.invariant (rw c.self.view_is c.requires) (search rules) (search rules) newest)

pub invariant_of-self-in-Err-insert : goal.invariant_of-self-in-Err-insert
invariant_of-self-in-Err-insert c =
    let old = c.self.inside in
    let names : c.push.new.self ≡ old.texts ++ c.args.text ∷ [] = search rules in
    let nexts : c.push-2.new.self ≡ old.nexts ++ c.copied-next.result ∷ [] = search rules in
    let kept : (q : ℕ) → get nat_eq c.insert.new.self q ≡ get nat_eq old.newest q = search rules in
    rw (c.truncate-in-Err-insert.ensures, c.truncate-in-Err-insert-2.ensures) (names_undo text_hash (get nat_eq old.newest) (get nat_eq c.insert.new.self) old.texts c.push.new.self old.nexts c.push-2.new.self c.args.text c.copied-next.result c.len-place.result
    c.self.invariant kept (search rules) names nexts)
