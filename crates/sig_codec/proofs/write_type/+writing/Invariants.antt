use Rattle.std.proofs.Common.{◌≡◌, ℕ, ◌+◌, ◌*◌, List, ◌++◌, drop, map}
use Rattle.type_terms.specs.Depth.{depth, largest}
use Rattle.sig_codec.specs.Spelling.{writing, SpellsEach}
use Rattle.sig_codec.specs.Spellable.{HaveSpellings}
use Rattle.sig_codec.proofs.write_type.+writing.Given as goal

abbrev pub decreases-push_type : goal.decreases-push_type
decreases-push_type g l = 2 * depth l.t.now

abbrev pub decreases-push_each : goal.decreases-push_each
decreases-push_each g l = 2 * largest (map depth l.types.now) + 1

abbrev pub invariant-push_each-loop-t : goal.invariant-push_each-loop-t
invariant-push_each-loop-t g l =
    let tokens = g.N.Numberer.owner_tokens l.map in
    HaveSpellings tokens (drop l.t-index l.types)
    × ((b : List ℕ) → SpellsEach (writing tokens) (drop l.t-index l.types) b → (a : List ℕ) × (l.initial.out ++ a ≡ l.out ++ b) × SpellsEach (writing tokens) l.types a)
