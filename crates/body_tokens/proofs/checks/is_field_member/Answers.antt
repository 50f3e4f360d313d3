use Rattle.std.proofs.Common.{refl}
use Rattle.std.proofs.lemmas.Bool.{false≢true}
use Rattle.body_tokens.specs.Tokens.{IsFieldMember}
use Rattle.body_tokens.proofs.Checking.{row_named, member_said, no_member}
use Rattle.body_tokens.proofs.checks.is_field_member.Goals as goal

pub has_field_signature-requires : goal.has_field_signature-requires
has_field_signature-requires c = row_named c.args.image.now c.args.token (c.if-names_row.ensures.0 refl)

pub returns-then-names_row : goal.returns-then-names_row
returns-then-names_row c =
    member_said c.args.image.now c.args.token (IsFieldMember c.args.image.now) c.has_field_signature.result (c.if-names_row.ensures.0 refl) c.has_field_signature.ensures

pub returns : goal.returns
returns c = (
  λ t. absurd (false≢true t),
  λ m. absurd (no_member c.args.image.now c.args.token (IsFieldMember c.args.image.now) (λ n. false≢true (c.if-names_row.ensures.1 n)) m),
)
