use Rattle.std.proofs.Common.{◌≡◌, ◌∙◌, [], ◌∷◌, ap, subst, sym}
use Rattle.std.specs.Prelude.{true, is_some}
use Rattle.il_lexer.specs.declared.types.TokenKind.TheVariants as token_kind
use Rattle.ilasm_grammar.specs.declared.productions.TheConstants.{SIGNATURE, TYPE}
use Rattle.source_model.specs.Forest.{chosen}
use Rattle.source_model.specs.Signatures.{is_property_unbroken, not_in_property}
use Rattle.source_model.specs.Values.{name_text}
use Rattle.source_nodes.specs.Readers.{IsOf}
use Rattle.check_members.specs.declared.member_kinds.Kind.TheVariants.{Property}
use Rattle.check_members.proofs.KeepLemmas.{some_found}
use Rattle.check_members.proofs.MemberParts.{property_is_name}
use Rattle.check_members.proofs.ReadLemmas.{both_are, kept_is, never, none_is, not_false, not_true, same_member, some_is}
use Rattle.check_members.proofs.member_reading.Signatures.property.Goals as goal

pub returns-then-is_some : goal.returns-then-is_some
returns-then-is_some g c s a f v r p h e fits bodies =
    let found = sym (c.is_some.ensures ∙ ap is_some (c.not_in_property.ensures f e) ∙ some_found (not_in_property f)) in
    none_is s a Property f (never _ _ (not_true _ (found ∙ c.if-is_some.true)))

pub returns-then-not-branch : goal.returns-then-not-branch
returns-then-not-branch g c s a f v r p h e fits bodies =
    let found = sym (c.is_some.ensures ∙ ap is_some (c.not_in_property.ensures f e) ∙ some_found (not_in_property f)) in
    let kept = sym (c.in_ok-keeps.ensures s a f r p h e bodies
    ∙ kept_is (g.R.Rule.broken c.args.self.now.rule.now) c.args.self.now.scopes s v a (chosen (TYPE ∷ SIGNATURE ∷ []) f)) in
    none_is s a Property f (both_are _ _ _ (kept ∙ c.if-not-branch.true) (not_false _ (found ∙ c.if-is_some.false)))

pub returns : goal.returns
returns g c s a f v r p h e fits bodies =
    let found = sym (c.is_some.ensures ∙ ap is_some (c.not_in_property.ensures f e) ∙ some_found (not_in_property f)) in
    let kept = sym (c.in_ok-keeps.ensures s a f r p h e bodies
    ∙ kept_is (g.R.Rule.broken c.args.self.now.rule.now) c.args.self.now.scopes s v a (chosen (TYPE ∷ SIGNATURE ∷ []) f)) in
    let unbroken : is_property_unbroken s a f ≡ true = both_are _ _ _ (kept ∙ c.if-not-branch.false) (not_false _ (found ∙ c.if-is_some.false)) in
    let sound = c.unbroken_signatures_are_sound.ensures.property s a f bodies unbroken in
    let token = c.leaf_at.ensures f e in
    let name = c.in_ok-name.ensures s r (subst (IsOf s token_kind.Name) (sym token) (property_is_name s f fits)) in
    some_is s a Property f _ unbroken
    (same_member _ _ (name ∙ ap (name_text s) token) (c.in_ok-sig.ensures s a (c.at.ensures s a v r h) f e sound))
