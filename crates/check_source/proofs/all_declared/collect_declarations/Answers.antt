use Rattle.std.proofs.Common.{◌∙◌, ap, refl, sym}
use Rattle.std.specs.List.{list_any}
use Rattle.ilasm_grammar.specs.declared.productions.TheConstants.{ASSEMBLY_ASSEMBLY_ATTR_STAR, ASSEMBLY_EXTERN, DATA}
use Rattle.check_source.specs.Census.{is_long}
use Rattle.check_source.proofs.CensusLemmas.{count_of}
use Rattle.check_source.proofs.all_declared.collect_declarations.Goals as goal

pub returns : goal.returns
returns c s r =
    let census = c.requires.counted.counts in
    record {
      labels = c.in_ok-labels.ensures s r refl (c.count-data.ensures ∙ census DATA refl);
      externs = c.in_ok-externs.ensures s r refl (c.count-others.ensures ∙ census ASSEMBLY_EXTERN refl);
      own = c.in_ok-own.ensures s r refl (c.count-owns.ensures ∙ census ASSEMBLY_ASSEMBLY_ATTR_STAR refl);
      classes = c.in_ok-classes.ensures s r;
      census = λ p is. census p is ∙ ap (count_of p) (sym r.nodes);
      long-types = c.requires.counted.long-types ∙ ap (list_any is_long) (sym r.nodes);
    }
