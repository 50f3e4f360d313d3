use Rattle.std.proofs.Common.{rules, ◌≡◌, ℕ, None}
use Rattle.hash_places.specs.Slots.{place_of}
use Rattle.source_syntax.proofs.KeptClasses.{kept_none}
use Rattle.source_syntax.proofs.class_paths.ClassPaths.new.Goals as goal

pub invariant_of-result : goal.invariant_of-result
invariant_of-result c =
    let none : (h : ℕ) → place_of c.new.result h ≡ None = search rules in
    rw c.new-3.ensures (kept_none (place_of c.new.result) c.new-2.result none)
