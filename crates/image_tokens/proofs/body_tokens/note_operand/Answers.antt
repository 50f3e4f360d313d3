use Rattle.std.proofs.Common.{◌∙◌, ap, sym, subst, arith}
use Rattle.assembly_tree.specs.declared.body.Operand.TheVariants as operand
use Rattle.image_tokens.specs.Writable.{IsOperandWritable}
use Rattle.image_tokens.proofs.OperandLemmas.{weight_of_method, weight_of_field, weight_of_owner, method_noted, field_noted, of_noted, text_noted}
use Rattle.image_tokens.proofs.body_tokens.note_operand.Goals as goal

pub refer_method-requires-clause-writable : goal.refer_method-requires-clause-writable
refer_method-requires-clause-writable c = subst (IsOperandWritable c.args.refs.now) (c.in-Method.is ∙ ap operand.Method (sym c.get.ensures)) c.requires.writable

pub refer_method-requires-clause-room : goal.refer_method-requires-clause-room
refer_method-requires-clause-room c = let weighs = weight_of_method c.args.operand.now c.get.result.now (c.in-Method.is ∙ ap operand.Method (sym c.get.ensures)) in let room = c.requires.room in omega arith

pub returns-in_ok-refer_method-in-Method : goal.returns-in_ok-refer_method-in-Method
returns-in_ok-refer_method-in-Method c =
    method_noted c.args.refs.now c.refer_method.new.refs c.args.operand.now c.get.result.now c.in_ok-refer_method-in-Method.field-0 (c.in-Method.is ∙ ap operand.Method (sym c.get.ensures)) c.in_ok-refer_method-in-Method.ensures

pub refer_field-requires-clause-writable : goal.refer_field-requires-clause-writable
refer_field-requires-clause-writable c = subst (IsOperandWritable c.args.refs.now) (c.in-Field.is ∙ ap operand.Field (sym c.get-in-Field.ensures)) c.requires.writable

pub refer_field-requires-clause-room : goal.refer_field-requires-clause-room
refer_field-requires-clause-room c = let weighs = weight_of_field c.args.operand.now c.get-in-Field.result.now (c.in-Field.is ∙ ap operand.Field (sym c.get-in-Field.ensures)) in let room = c.requires.room in omega arith

pub returns-in_ok-refer_field-in-Field : goal.returns-in_ok-refer_field-in-Field
returns-in_ok-refer_field-in-Field c =
    field_noted c.args.refs.now c.refer_field.new.refs c.args.operand.now c.get-in-Field.result.now c.in_ok-refer_field-in-Field.field-0 (c.in-Field.is ∙ ap operand.Field (sym c.get-in-Field.ensures)) c.in_ok-refer_field-in-Field.ensures

pub refer_owner-requires-clause-writable : goal.refer_owner-requires-clause-writable
refer_owner-requires-clause-writable c = subst (IsOperandWritable c.args.refs.now) (c.in-Of.is ∙ ap operand.Of (sym c.get-in-Of.ensures)) c.requires.writable

pub refer_owner-requires-clause-room : goal.refer_owner-requires-clause-room
refer_owner-requires-clause-room c = let weighs = weight_of_owner c.args.operand.now c.get-in-Of.result.now (c.in-Of.is ∙ ap operand.Of (sym c.get-in-Of.ensures)) in let room = c.requires.room in omega arith

pub returns-in_ok-refer_owner-in-Of : goal.returns-in_ok-refer_owner-in-Of
returns-in_ok-refer_owner-in-Of c =
    of_noted c.args.refs.now c.refer_owner.new.refs c.args.operand.now c.get-in-Of.result.now c.in_ok-refer_owner-in-Of.field-0 (c.in-Of.is ∙ ap operand.Of (sym c.get-in-Of.ensures)) c.in_ok-refer_owner-in-Of.ensures

pub refer_loaded-requires-clause-loadable : goal.refer_loaded-requires-clause-loadable
refer_loaded-requires-clause-loadable c = subst (IsOperandWritable c.args.refs.now) (c.in-Text.is ∙ ap operand.Text (sym c.get-in-Text.ensures)) c.requires.writable

pub refer_loaded-requires-clause-room : goal.refer_loaded-requires-clause-room
refer_loaded-requires-clause-room c = let room = c.requires.room in omega arith

pub returns-in_ok-refer_loaded-in-Text : goal.returns-in_ok-refer_loaded-in-Text
returns-in_ok-refer_loaded-in-Text c =
    text_noted c.args.refs.now c.refer_loaded.new.refs c.args.operand.now c.get-in-Text.result.now c.in_ok-refer_loaded-in-Text.field-0 (c.in-Text.is ∙ ap operand.Text (sym c.get-in-Text.ensures)) c.in_ok-refer_loaded-in-Text.ensures
