use Rattle.sig_codec.specs.Reading.{whole_field, whole_method}
use Rattle.sig_codec.specs.Signature.{IsMethod, IsField}
use Rattle.sig_codec.proofs.Methods.{method_whole, whole_method_again}
use Rattle.sig_codec.proofs.Whole.{field_whole, whole_field_again}
use Rattle.image_model.specs.Tokens.{marked, type_tokens, sig_tokens, InMethod, InField}
use Rattle.row_signatures.proofs.Holding.{behind, more_as, one_of}
use Rattle.row_signatures.proofs.signed.member_tokens.Goals as goal

pub returns : goal.returns
returns c =
    one_of c.field_tokens.result c.args.into.now c.method_tokens.new.into c.field_tokens.new.into (InMethod c.args.bytes.now) (InField c.args.bytes.now) c.requires
    (behind sig_tokens (whole_method marked) (IsMethod marked) (method_whole marked) (whole_method_again marked) c.args.bytes.now c.args.into.now c.method_tokens.new.into c.in_ok-method_tokens.field-0 c.in_ok-method_tokens.ensures)
    (more_as type_tokens (whole_field marked) (IsField marked) (field_whole marked) (whole_field_again marked) c.field_tokens.result c.args.bytes.now c.method_tokens.new.into c.field_tokens.new.into c.field_tokens.ensures)
