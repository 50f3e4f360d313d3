use Rattle.std.proofs.Common.{rules, ◌≡◌, ℕ, [], ◌∷◌, ◌++◌, Some, cond, length}
use Rattle.std.specs.Prelude.{nat_eq}
use Rattle.hash_places.specs.Slots.{place_of}
use Rattle.image_tokens.specs.declared.found.Entry.{Entry}
use Rattle.image_tokens.proofs.FoundLemmas.{found_push, found_undo}
use Rattle.image_tokens.proofs.found.Found.add_hashed.Goals as goal

pub invariant_of-self-in-Ok : goal.invariant_of-self-in-Ok
invariant_of-self-in-Ok g c =
    let old = c.self.inside in
    let entry : Entry g.row.T.Denot = record { term = c.args.term; token = c.args.token; next = c.get-next.result } in
    let newest : (q : ℕ) → place_of c.insert.new.self q ≡ cond (nat_eq (g.T.Term.hash c.args.term.now) q) (Some (length c.as_slice-place.result.now)) (place_of old.newest q) = search rules in
    let entries : c.push.new.self ≡ old.entries ++ entry ∷ [] = search rules in
    found_push (λ (e : Entry g.row.T.Denot). e.term.now) (λ e. e.token) g.T.Term.stored g.T.Term.hash (λ e. e.next)
    (place_of old.newest) (place_of c.insert.new.self) old.entries c.push.new.self entry (length c.as_slice-place.result.now)
    c.self.invariant (rw c.self.view_is c.requires.none) entries (search rules) (search rules) newest

pub invariant_of-self-in-Err : goal.invariant_of-self-in-Err
invariant_of-self-in-Err g c =
    let old = c.self.inside in
    let entry : Entry g.row.T.Denot = record { term = c.args.term; token = c.args.token; next = c.get-next.result } in
    let kept : (q : ℕ) → place_of c.insert.new.self q ≡ place_of old.newest q = search rules in
    let entries : c.push.new.self ≡ old.entries ++ entry ∷ [] = search rules in
    rw c.truncate.ensures (found_undo (λ (e : Entry g.row.T.Denot). e.term.now) (λ e. e.token) g.T.Term.stored g.T.Term.hash (λ e. e.next)
    (place_of old.newest) (place_of c.insert.new.self) old.entries c.push.new.self entry (length c.as_slice-place.result.now)
    c.self.invariant kept (search rules) entries)
