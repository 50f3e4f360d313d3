use Rattle.std.proofs.Common.{refl, ◌%◌, ◌^◌}
use Rattle.std.proofs.lemmas.Bool.{false≢true}
use Rattle.body_tokens.specs.Tokens.{IsFieldMember}
use Rattle.body_tokens.proofs.Checking.{row_named, member_said, no_member, not_said}
use Rattle.body_tokens.proofs.checks.is_method_member.Goals as goal

pub has_field_signature-requires : goal.has_field_signature-requires
has_field_signature-requires c = row_named c.args.image.now c.args.token (c.if-names_row.ensures.0 refl)

pub returns-then-names_row : goal.returns-then-names_row
returns-then-names_row c =
    member_said c.args.image.now c.args.token (λ row. IsFieldMember c.args.image.now row → ⊥) _ (c.if-names_row.ensures.0 refl)
    (not_said (IsFieldMember c.args.image.now (c.args.token % 2 ^ 24)) c.has_field_signature.result _ c.has_field_signature.ensures refl)

pub returns : goal.returns
returns c = (
  λ t. absurd (false≢true t),
  λ m. absurd (no_member c.args.image.now c.args.token (λ row. IsFieldMember c.args.image.now row → ⊥) (λ n. false≢true (c.if-names_row.ensures.1 n)) m),
)
