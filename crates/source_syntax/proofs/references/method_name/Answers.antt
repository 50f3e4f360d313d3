use Rattle.std.proofs.Common.{◌≡◌, refl, ap, sym, subst, ◌∙◌}
use Rattle.std.proofs.lemmas.Result.{IfOk-weaker}
use Rattle.il_lexer.specs.declared.types.TokenKind.TheVariants as kind
use Rattle.ilasm_grammar.specs.declared.productions.TheConstants.{METHOD_NAME_CCTOR, METHOD_NAME_CTOR, METHOD_NAME_NAME}
use Rattle.source_model.specs.References.{method_name}
use Rattle.source_model.specs.Values.{name_text}
use Rattle.source_nodes.specs.Readers.{IsOf}
use Rattle.source_nodes.proofs.Collecting.{behind_is, below_is, is_branch}
use Rattle.source_syntax.proofs.MethodNames.{apart_names, is_cctor, is_ctor, is_named, name_found, names_go_in, names_start, no_name}
use Rattle.source_syntax.proofs.references.method_name.Goals as goal

pub loop-x-init : goal.loop-x-init
loop-x-init c = record { forest = c.requires; so_far = λ s f e bodies. names_start s f c.args.nodes.now e bodies }

pub leaf_at-requires : goal.leaf_at-requires
leaf_at-requires c =
    let b = is_branch METHOD_NAME_NAME c.in-Some.x.node (sym c.is_of.ensures ∙ c.if-is_of.true) in
    below_is c.loop-x.left.now c.in-Some.x METHOD_NAME_NAME b.0 c.in-Some.ensures b.1 c.loop-x.invariant.forest

pub returns-then-is_of : goal.returns-then-is_of
returns-then-is_of c s r f e bodies =
    let b = is_branch METHOD_NAME_NAME c.in-Some.x.node (sym c.is_of.ensures ∙ c.if-is_of.true) in
    let m = name_found s f c.loop-x.left.now c.in-Some.x METHOD_NAME_NAME b.0 c.in-Some.ensures b.1 refl (c.loop-x.invariant.so_far s f e bodies) in
    let at = c.leaf_at.ensures m.inner m.inner-is in
    IfOk-weaker c.name_text.result _ (λ name. name ≡ method_name s f) (λ name h. h ∙ ap (name_text s) at ∙ m.is)
    (c.name_text.ensures s r (subst (IsOf s kind.Name) (sym at) (is_named s m.inner m.fits)))

pub returns-then-is_of-2 : goal.returns-then-is_of-2
returns-then-is_of-2 c s r f e bodies =
    let b = is_branch METHOD_NAME_CTOR c.in-Some.x.node (sym c.is_of-then-is_name.ensures ∙ c.if-is_of-2.true) in
    let m = name_found s f c.loop-x.left.now c.in-Some.x METHOD_NAME_CTOR b.0 c.in-Some.ensures b.1 refl (c.loop-x.invariant.so_far s f e bodies) in
    IfOk-weaker c.new.result _ (λ name. name ≡ method_name s f)
    (λ name h. h ∙ is_ctor c.the_longest_spelling_is_taken.ensures c.tokens_are_spellings.ensures s m.inner r.lexes m.fits ∙ m.is) c.new.ensures

pub returns-then-is_of-3 : goal.returns-then-is_of-3
returns-then-is_of-3 c s r f e bodies =
    let b = is_branch METHOD_NAME_CCTOR c.in-Some.x.node (sym c.is_of-then-is_name-2.ensures ∙ c.if-is_of-3.true) in
    let m = name_found s f c.loop-x.left.now c.in-Some.x METHOD_NAME_CCTOR b.0 c.in-Some.ensures b.1 refl (c.loop-x.invariant.so_far s f e bodies) in
    IfOk-weaker c.new-then-is_of-3.result _ (λ name. name ≡ method_name s f)
    (λ name h. h ∙ is_cctor c.the_longest_spelling_is_taken.ensures c.tokens_are_spellings.ensures s m.inner r.lexes m.fits ∙ m.is) c.new-then-is_of-3.ensures

pub loop-x-preserved-then-is_name : goal.loop-x-preserved-then-is_name
loop-x-preserved-then-is_name c = record {
  forest = behind_is c.loop-x.left.now c.in-Some.x c.in-Some.ensures c.loop-x.invariant.forest;
  so_far = λ s f e bodies.
      names_go_in c.forests_join.ensures s f c.loop-x.left.now c.in-Some.x c.in-Some.ensures (sym c.is_of.ensures ∙ c.if-is_of.false)
      (sym c.is_of-then-is_name.ensures ∙ c.if-is_of-2.false) (sym c.is_of-then-is_name-2.ensures ∙ c.if-is_of-3.false) (c.loop-x.invariant.so_far s f e bodies);
}

pub returns : goal.returns
returns c s r f e bodies =
    IfOk-weaker c.new-2.result _ (λ name. name ≡ method_name s f)
    (λ name h. h ∙ no_name s f c.loop-x.left.now c.in_default.ensures (c.loop-x.invariant.so_far s f e bodies)) c.new-2.ensures

pub loop-x-preserved : goal.loop-x-preserved
loop-x-preserved c =
    let apart = apart_names c.in-Some.x.node (sym c.is_name.ensures ∙ c.if-is_name.false) in
    record {
      forest = behind_is c.loop-x.left.now c.in-Some.x c.in-Some.ensures c.loop-x.invariant.forest;
      so_far = λ s f e bodies.
          names_go_in c.forests_join.ensures s f c.loop-x.left.now c.in-Some.x c.in-Some.ensures apart.0 apart.1.0 apart.1.1 (c.loop-x.invariant.so_far s f e bodies);
    }
