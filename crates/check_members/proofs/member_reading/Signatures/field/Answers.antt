use Rattle.std.proofs.Common.{◌≡◌, ◌∙◌, [], ◌∷◌, ap, subst, sym}
use Rattle.std.specs.Prelude.{true}
use Rattle.il_lexer.specs.declared.types.TokenKind.TheVariants as token_kind
use Rattle.ilasm_grammar.specs.declared.productions.TheConstants.{TYPE}
use Rattle.source_model.specs.Forest.{chosen}
use Rattle.source_model.specs.Signatures.{is_field_unbroken}
use Rattle.source_model.specs.Values.{name_text}
use Rattle.source_nodes.specs.Readers.{IsOf}
use Rattle.check_members.specs.MemberKinds.{of_type}
use Rattle.check_members.specs.declared.member_kinds.Kind.TheVariants.{Field}
use Rattle.check_members.proofs.MemberParts.{field_is_name}
use Rattle.check_members.proofs.ReadLemmas.{kept_is, none_is, same_member, some_is}
use Rattle.check_members.proofs.member_reading.Signatures.field.Goals as goal

pub returns-then-not-branch : goal.returns-then-not-branch
returns-then-not-branch g c s a f v r p h e fits bodies =
    none_is s a Field f (sym (c.in_ok-keeps.ensures s a f r p h e bodies
    ∙ kept_is (g.R.Rule.broken c.args.self.now.rule.now) c.args.self.now.scopes s v a (chosen (TYPE ∷ []) f)) ∙ c.if-not-branch.true)

pub returns : goal.returns
returns g c s a f v r p h e fits bodies =
    let unbroken : is_field_unbroken s a f ≡ true =
    sym (c.in_ok-keeps.ensures s a f r p h e bodies
    ∙ kept_is (g.R.Rule.broken c.args.self.now.rule.now) c.args.self.now.scopes s v a (chosen (TYPE ∷ []) f)) ∙ c.if-not-branch.false in
    let sound = c.unbroken_signatures_are_sound.ensures.field s a f bodies unbroken in
    let of = c.in_ok-of.ensures s a (c.at.ensures s a v r h) f e sound in
    let token = c.leaf_at.ensures f e in
    let name = c.in_ok-name.ensures s r (subst (IsOf s token_kind.Name) (sym token) (field_is_name s f fits)) in
    some_is s a Field f _ unbroken (same_member _ _ (name ∙ ap (name_text s) token) (c.of_type-sig.ensures ∙ ap of_type of))
