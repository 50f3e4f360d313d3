use Rattle.std.proofs.Common.{refl, sym, arith, ◌≡◌, ◌⊎◌, List, ℕ}
use Rattle.std.specs.List.{flat_map}
use Rattle.type_terms.specs.declared.term.SigType.{SigType}
use Rattle.sig_codec.specs.Reading.{whole_type, whole_field, whole_locals, whole_instantiation, whole_method, whole_property}
use Rattle.sig_codec.specs.Signature.{IsType, IsMethod, IsField, IsProperty, AreLocals, IsInstantiation}
use Rattle.sig_codec.proofs.Methods.{method_whole, whole_method_again, property_whole, whole_property_again}
use Rattle.sig_codec.proofs.Whole.{type_whole, whole_type_again, field_whole, whole_field_again, locals_whole, whole_locals_again, instantiation_whole, whole_instantiation_again}
use Rattle.image_model.specs.Tokens.{marked, type_tokens, sig_tokens, InMethod, InField}
use Rattle.row_signatures.specs.Signed.{InSignature, in_field, in_method, in_member, in_locals, in_property, in_type, in_instance}
use Rattle.row_signatures.proofs.Columns.{field_of, method_of, member_of, locals_of, property_of, type_of, instance_of, none_of}
use Rattle.row_signatures.proofs.Holding.{alone, lacks, held_as}
use Rattle.row_signatures.proofs.signed.put_tokens.Goals as goal

pub returns-in-4 : goal.returns-in-4
returns-in-4 c =
    alone type_tokens (whole_field marked) (IsField marked) (field_whole marked) (whole_field_again marked) c.field_tokens.result c.args.bytes.now c.args.into.now c.field_tokens.new.into c.requires c.field_tokens.ensures
    (InSignature c.args.table c.args.bytes.now) (λ token i. in_field c.in-4.is i) (λ token s. field_of c.in-4.is s)

pub returns-in-6 : goal.returns-in-6
returns-in-6 c =
    alone sig_tokens (whole_method marked) (IsMethod marked) (method_whole marked) (whole_method_again marked) c.method_tokens.result c.args.bytes.now c.args.into.now c.method_tokens.new.into c.requires c.method_tokens.ensures
    (InSignature c.args.table c.args.bytes.now) (λ token i. in_method c.in-6.is i) (λ token s. method_of c.in-6.is s)

pub returns-in-17 : goal.returns-in-17
returns-in-17 c =
    alone (λ (ts : List SigType). flat_map type_tokens ts) (whole_locals marked) (AreLocals marked) (locals_whole marked) (whole_locals_again marked) c.locals_tokens.result c.args.bytes.now c.args.into.now c.locals_tokens.new.into c.requires c.locals_tokens.ensures
    (InSignature c.args.table c.args.bytes.now) (λ token i. in_locals c.in-17.is i) (λ token s. locals_of c.in-17.is s)

pub returns-in-23 : goal.returns-in-23
returns-in-23 c =
    alone sig_tokens (whole_property marked) (IsProperty marked) (property_whole marked) (whole_property_again marked) c.property_tokens.result c.args.bytes.now c.args.into.now c.property_tokens.new.into c.requires c.property_tokens.ensures
    (InSignature c.args.table c.args.bytes.now) (λ token i. in_property c.in-23.is i) (λ token s. property_of c.in-23.is s)

pub returns-in-27 : goal.returns-in-27
returns-in-27 c =
    alone type_tokens (whole_type marked) (IsType marked) (type_whole marked) (whole_type_again marked) c.type_tokens.result c.args.bytes.now c.args.into.now c.type_tokens.new.into c.requires c.type_tokens.ensures
    (InSignature c.args.table c.args.bytes.now) (λ token i. in_type c.in-27.is i) (λ token s. type_of c.in-27.is s)

pub returns-in-43 : goal.returns-in-43
returns-in-43 c =
    alone (λ (ts : List SigType). flat_map type_tokens ts) (whole_instantiation marked) (IsInstantiation marked) (instantiation_whole marked) (whole_instantiation_again marked) c.instantiation_tokens.result c.args.bytes.now c.args.into.now c.instantiation_tokens.new.into c.requires c.instantiation_tokens.ensures
    (InSignature c.args.table c.args.bytes.now) (λ token i. in_instance c.in-43.is i) (λ token s. instance_of c.in-43.is s)

pub returns-in-10 : goal.returns-in-10
returns-in-10 c =
    held_as c.member_tokens.result c.member_tokens.new.into (λ token. InMethod c.args.bytes.now token ⊎ InField c.args.bytes.now token) (InSignature c.args.table c.args.bytes.now) c.member_tokens.ensures
    (λ token i. in_member c.in-10.is i) (λ token s. member_of c.in-10.is s)

pub returns-in_default : goal.returns-in_default
returns-in_default c = λ token. (
  λ h. absurd (lacks c.args.into.now token c.requires h),
  λ s. absurd (none_of (λ e. absurd (omega arith)) (λ e. absurd (omega arith)) (λ e. absurd (omega arith)) (λ e. absurd (omega arith)) (λ e. absurd (omega arith)) (λ e. absurd (omega arith)) (λ e. absurd (omega arith)) s),
)
