use Rattle.std.proofs.Common.{◌∙◌, sym}
use Rattle.ilasm_grammar.specs.declared.productions.TheConstants.{FIELD}
use Rattle.source_model.specs.Nodes.{nodes_in}
use Rattle.source_nodes.proofs.Collecting.{behind_is, below_is, is_branch}
use Rattle.check_data.proofs.FieldLemmas.{asking_end, asking_field, asking_other, asking_start}
use Rattle.check_data.proofs.mapped_fields.faults_among.Goals as goal

pub loop-x-init : goal.loop-x-init
loop-x-init c = record {
  forest = c.requires;
  so_far = λ s a f m e h. asking_start s a f c.args.nodes.now c.no_faults-found.result e h c.no_faults-found.ensures.short c.no_faults-found.ensures.without_size;
}

pub field_faults-requires : goal.field_faults-requires
field_faults-requires c =
    let b = is_branch FIELD c.in-Some.x.node (sym c.is_of.ensures ∙ c.if-is_of.true) in
    below_is c.loop-x.left.now c.in-Some.x FIELD b.0 c.in-Some.ensures b.1 c.loop-x.invariant.forest

pub loop-x-preserved-then-is_of : goal.loop-x-preserved-then-is_of
loop-x-preserved-then-is_of c = record {
  forest = behind_is c.loop-x.left.now c.in-Some.x c.in-Some.ensures c.loop-x.invariant.forest;
  so_far = λ s a f m e h.
      asking_field s (nodes_in s a f) c.loop-x.left.now c.in-Some.x c.loop-x.found c.sooner_of-found.result c.in_ok-here.here c.in-Some.ensures
      (sym c.is_of.ensures ∙ c.if-is_of.true) (λ n i bodies. c.in_ok-here.ensures s n m i bodies) c.sooner_of-found.ensures.short c.sooner_of-found.ensures.without_size
      (c.loop-x.invariant.so_far s a f m e h);
}

pub loop-x-preserved : goal.loop-x-preserved
loop-x-preserved c = record {
  forest = behind_is c.loop-x.left.now c.in-Some.x c.in-Some.ensures c.loop-x.invariant.forest;
  so_far = λ s a f m e h.
      asking_other s (nodes_in s a f) c.loop-x.left.now c.in-Some.x c.loop-x.found c.in-Some.ensures (sym c.is_of.ensures ∙ c.if-is_of.false)
      (c.loop-x.invariant.so_far s a f m e h);
}

pub returns : goal.returns
returns c s a f m e h = asking_end s (nodes_in s a f) c.loop-x.left.now c.loop-x.found c.in_default.ensures (c.loop-x.invariant.so_far s a f m e h)
