use Rattle.std.proofs.Common.{subst, List, ℕ}
use Rattle.type_tables.specs.Members.{AreMeanings}
use Rattle.type_hierarchy.specs.Scopes.{sources}
use Rattle.type_tables.proofs.scopes.read_scopes.Goals as goal

pub read_names-requires-clause-externs : goal.read_names-requires-clause-externs
read_names-requires-clause-externs c = c.requires.externs 0

pub returns : goal.returns
returns c =
    let s = sources c.args.image.now c.args.references.now in
    let ms = c.in_ok-meanings.meanings in
    let are : AreMeanings s c.in_ok-numbers.numbers ms = subst (λ (ns : List ℕ). AreMeanings s ns ms) c.as_slice.ensures c.in_ok-meanings.ensures in
    record {
      core = c.in_ok-naming.ensures.core;
      numbers = c.in_ok-numbers.ensures;
      paired = are.paired;
      meanings = are.each;
    }
