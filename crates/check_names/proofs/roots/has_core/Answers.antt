use Rattle.std.proofs.Common.{◌∙◌, ap, sym, subst}
use Rattle.std.specs.Prelude.{bytes_eq}
use Rattle.std.specs.List.{list_any}
use Rattle.il_lexer.specs.declared.types.TokenKind.TheVariants as kind
use Rattle.ilasm_grammar.specs.declared.productions.TheConstants.{ASSEMBLY_EXTERN}
use Rattle.source_model.specs.Classes.{core_names}
use Rattle.source_model.specs.Values.{name_text}
use Rattle.source_nodes.specs.Readers.{IsOf}
use Rattle.source_nodes.proofs.Collecting.{after_is, behind_is, below_is, is_branch}
use Rattle.check_names.proofs.CoreWalks.{core_end, core_first, core_in, core_start, extern_is_name}
use Rattle.check_names.proofs.roots.has_core.Goals as goal

pub loop-x-init : goal.loop-x-init
loop-x-init c = record {
  forest = c.requires;
  so_far = λ s r. core_start s c.args.reader.now.nodes.now r.nodes (c.derivations_have_bodies.ensures s r.derived).1;
}

pub leaf_at-requires : goal.leaf_at-requires
leaf_at-requires c =
    let b = is_branch ASSEMBLY_EXTERN c.in-Some.x.node (sym c.is_of.ensures ∙ c.if-is_of.true) in
    below_is c.loop-x.left.now c.in-Some.x ASSEMBLY_EXTERN b.0 c.in-Some.ensures b.1 c.loop-x.invariant.forest

pub returns-then-core : goal.returns-then-core
returns-then-core c s r =
    let b = is_branch ASSEMBLY_EXTERN c.in-Some.x.node (sym c.is_of.ensures ∙ c.if-is_of.true) in
    let m = core_first s c.loop-x.left.now c.in-Some.x c.in-Some.ensures (c.loop-x.invariant.so_far s r) b.0 b.1 in
    let at = c.leaf_at.ensures m.inner m.inner-is in
    let core = c.in_ok-core.ensures s r (subst (IsOf s kind.Name) (sym at) (extern_is_name s m.inner m.fits)) in
    m.found (ap (λ t. list_any (bytes_eq (name_text s t)) core_names) (sym at) ∙ sym core ∙ c.if-core.true)

pub loop-x-preserved-then-is_of : goal.loop-x-preserved-then-is_of
loop-x-preserved-then-is_of c =
    let b = is_branch ASSEMBLY_EXTERN c.in-Some.x.node (sym c.is_of.ensures ∙ c.if-is_of.true) in
    record {
      forest = after_is c.loop-x.left.now c.in-Some.x ASSEMBLY_EXTERN b.0 c.in-Some.ensures b.1 c.loop-x.invariant.forest;
      so_far = λ s r.
          let m = core_first s c.loop-x.left.now c.in-Some.x c.in-Some.ensures (c.loop-x.invariant.so_far s r) b.0 b.1 in
          let at = c.leaf_at.ensures m.inner m.inner-is in
          let core = c.in_ok-core.ensures s r (subst (IsOf s kind.Name) (sym at) (extern_is_name s m.inner m.fits)) in
          m.next (ap (λ t. list_any (bytes_eq (name_text s t)) core_names) (sym at) ∙ sym core ∙ c.if-core.false);
    }

pub loop-x-preserved : goal.loop-x-preserved
loop-x-preserved c = record {
  forest = behind_is c.loop-x.left.now c.in-Some.x c.in-Some.ensures c.loop-x.invariant.forest;
  so_far = λ s r. core_in s c.loop-x.left.now c.in-Some.x c.in-Some.ensures (c.loop-x.invariant.so_far s r) c.forests_join.ensures (sym c.is_of.ensures ∙ c.if-is_of.false);
}

pub returns : goal.returns
returns c s r = core_end s c.loop-x.left.now c.in_default.ensures (c.loop-x.invariant.so_far s r)
