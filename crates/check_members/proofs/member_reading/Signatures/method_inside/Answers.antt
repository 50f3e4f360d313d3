use Rattle.std.proofs.Common.{◌≡◌, ◌∙◌, [], ◌∷◌, sym}
use Rattle.std.specs.Prelude.{true}
use Rattle.ilasm_grammar.specs.declared.productions.TheConstants.{DEF_ARGS_OPT_SOME, TYPE}
use Rattle.source_model.specs.Forest.{chosen}
use Rattle.source_model.specs.Members.{in_method}
use Rattle.source_model.specs.Signatures.{is_method_unbroken}
use Rattle.check_members.specs.declared.member_kinds.Kind.TheVariants.{Method}
use Rattle.check_members.proofs.ReadLemmas.{both_are, kept_is, none_is, same_member, some_is}
use Rattle.check_members.proofs.member_reading.Signatures.method_inside.Goals as goal

pub returns-then-not-branch : goal.returns-then-not-branch
returns-then-not-branch g c s a f v r p h e bodies few =
    let parts = chosen (TYPE ∷ DEF_ARGS_OPT_SOME ∷ []) f in
    let kept = sym (c.in_ok-keeps.ensures s (in_method a f) f r p h e bodies
    ∙ kept_is (g.R.Rule.broken c.args.self.now.rule.now) c.args.self.now.scopes s v (in_method a f) parts) in
    none_is s a Method f (both_are _ _ _ (kept ∙ c.if-not-branch.true) few)

pub returns : goal.returns
returns g c s a f v r p h e bodies few =
    let parts = chosen (TYPE ∷ DEF_ARGS_OPT_SOME ∷ []) f in
    let kept = sym (c.in_ok-keeps.ensures s (in_method a f) f r p h e bodies
    ∙ kept_is (g.R.Rule.broken c.args.self.now.rule.now) c.args.self.now.scopes s v (in_method a f) parts) in
    let unbroken : is_method_unbroken s a f ≡ true = both_are _ _ _ (kept ∙ c.if-not-branch.false) few in
    let sound = c.unbroken_signatures_are_sound.ensures.method s a f bodies unbroken in
    some_is s a Method f _ unbroken
    (same_member _ _ (c.in_ok-name.ensures s r f e bodies) (c.in_ok-sig.ensures s (in_method a f) (c.at.ensures s (in_method a f) v r h) f e sound))
