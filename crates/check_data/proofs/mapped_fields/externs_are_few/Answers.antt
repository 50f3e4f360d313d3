use Rattle.ilasm_grammar.specs.declared.nonterminals.TheConstants.{SOURCE}
use Rattle.check_data.proofs.ExternLemmas.{few_externs}
use Rattle.check_data.proofs.mapped_fields.externs_are_few.Goals as goal

pub returns : goal.returns
returns c s r =
    few_externs c.forests_join.ensures s SOURCE s.tree c.args.reader.now.nodes.now c.open-first.result c.open-first.ensures r.nodes
    (c.derivations_have_bodies.ensures s r.derived).0
