use Rattle.std.proofs.Common.{◌≤◌, ◌<◌, ◌^◌, length, refl, sym, subst, ◌∙◌}
use Rattle.std.specs.Prelude.{IfOk, IfErr}
use Rattle.il_lexer.specs.Lexing.{all_placed}
use Rattle.ilasm_grammar.specs.Ilasm.{ilasm}
use Rattle.source_model.specs.Denotes.{Denotes}
use Rattle.elaborate.specs.Elaborated.{IsCause}
use Rattle.elaborate.proofs.Elaborated.{denoted, faulty, few_nodes, formed, reads, source_of}
use Rattle.elaborate.proofs.elaborating.elaborate_spans.Goals as goal

pub read_source-requires-clause-reads : goal.read_source-requires-clause-reads
read_source-requires-clause-reads c =
    let f = c.derivations_are_forests.ensures.some ilasm 0 _ _ c.args.tree.now c.requires.derives in (
      source_of c.args.source.now (all_placed c.args.source.now c.args.spans.now) f.0,
      reads _ c.args.source.now c.args.spans.now c.args.tree.now f.0 refl c.as_slice.ensures c.as_slice-2.ensures f.1 c.requires.lexes c.requires.derives,
    )

pub read_source-requires-clause-few : goal.read_source-requires-clause-few
read_source-requires-clause-few c = subst (λ ts. length ts ≤ 2 ^ 24) (sym c.as_slice.ensures) c.requires.few

pub read_source-requires-clause-few_nodes : goal.read_source-requires-clause-few_nodes
read_source-requires-clause-few_nodes c =
    subst (λ ns. length ns < 2 ^ 32) (sym c.as_slice-2.ensures) (few_nodes c.one_derivation.ensures.few c.args.source.now c.args.spans.now c.args.tree.now c.requires.few c.requires.derives)

pub returns-clause-denoted : goal.returns-clause-denoted
returns-clause-denoted c = denoted c.one_meaning.ensures c.args.source.now c.read_source.result c.read_source.ensures.assembly c.read_source.ensures.cause

pub returns-clause-faulty : goal.returns-clause-faulty
returns-clause-faulty c = faulty c.one_meaning.ensures c.args.source.now c.read_source.result c.read_source.ensures.assembly c.read_source.ensures.cause

pub returns-clause-formed : goal.returns-clause-formed
returns-clause-formed c = formed c.what_is_denoted_is_formed.ensures c.args.source.now c.read_source.result c.read_source.ensures.assembly
