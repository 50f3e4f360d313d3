use Rattle.std.proofs.Common.{rules, ◌≡◌, ℕ, [], ◌∷◌, ◌++◌, Some, cond, length}
use Rattle.std.specs.Prelude.{nat_eq}
use Rattle.hash_places.specs.Slots.{place_of}
use Rattle.image_tokens.specs.Rows.{cells_hash}
use Rattle.image_tokens.specs.declared.row_set.Linked.{Linked}
use Rattle.image_tokens.proofs.RowSetLemmas.{rows_push, rows_undo}
use Rattle.image_tokens.proofs.row_set.RowSet.add_hashed.Goals as goal

pub invariant_of-self-in-Ok : goal.invariant_of-self-in-Ok
invariant_of-self-in-Ok c =
    let old = c.self.inside in
    let entry : Linked = record { cells = c.args.cells; next = c.get-next.result } in
    let newest : (q : ℕ) → place_of c.insert.new.self q ≡ cond (nat_eq (cells_hash c.args.cells) q) (Some (length c.as_slice-place.result.now)) (place_of old.newest q) = search rules in
    let rows : c.push.new.self ≡ old.rows ++ entry ∷ [] = search rules in
    rows_push (place_of old.newest) (place_of c.insert.new.self) old.rows c.push.new.self entry (length c.as_slice-place.result.now) (search rules) rows c.self.invariant.1
    (rw c.self.view_is c.requires.few) (rw c.self.view_is c.requires.lacks) (search rules) newest

pub invariant_of-self-in-Err : goal.invariant_of-self-in-Err
invariant_of-self-in-Err c =
    let old = c.self.inside in
    let entry : Linked = record { cells = c.args.cells; next = c.get-next.result } in
    let kept : (q : ℕ) → place_of c.insert.new.self q ≡ place_of old.newest q = search rules in
    let rows : c.push.new.self ≡ old.rows ++ entry ∷ [] = search rules in
    rw c.truncate.ensures (rows_undo (place_of old.newest) (place_of c.insert.new.self) old.rows c.push.new.self entry (length c.as_slice-place.result.now) (search rules) rows c.self.invariant.1
    c.self.invariant.0 kept)
