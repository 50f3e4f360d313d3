use Rattle.std.proofs.Common.{◌∙◌, ap, subst, sym}
use Rattle.il_lexer.specs.declared.types.TokenKind.TheVariants as token_kind
use Rattle.source_model.specs.Values.{name_text}
use Rattle.source_nodes.specs.Readers.{IsOf}
use Rattle.check_members.specs.declared.member_kinds.Kind.TheVariants.{Event}
use Rattle.check_members.proofs.MemberParts.{event_is_name}
use Rattle.check_members.proofs.ReadLemmas.{same_member, some_is}
use Rattle.std.proofs.Common.{refl}
use Rattle.check_members.proofs.member_reading.event.Goals as goal

pub returns : goal.returns
returns c s a f r e fits =
    let token = c.leaf_at.ensures f e in
    let name = c.in_ok-name.ensures s r (subst (IsOf s token_kind.Name) (sym token) (event_is_name s f fits)) in
    some_is s a Event f _ refl (same_member _ _ (name ∙ ap (name_text s) token) c.of_type-sig.ensures)
