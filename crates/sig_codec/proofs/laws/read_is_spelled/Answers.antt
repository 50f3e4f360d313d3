use Rattle.sig_codec.proofs.Methods.{method_whole, whole_method_again, property_whole, whole_property_again}
use Rattle.sig_codec.proofs.Whole.{type_whole, whole_type_again, field_whole, whole_field_again, locals_whole, whole_locals_again, instantiation_whole, whole_instantiation_again}
use Rattle.sig_codec.proofs.laws.read_is_spelled.Goals as goal

pub returns-clause-type_of : goal.returns-clause-type_of
returns-clause-type_of c = λ owners bytes x. (type_whole owners bytes x, whole_type_again owners bytes x)

pub returns-clause-method : goal.returns-clause-method
returns-clause-method c = λ owners bytes x. (method_whole owners bytes x, whole_method_again owners bytes x)

pub returns-clause-field : goal.returns-clause-field
returns-clause-field c = λ owners bytes x. (field_whole owners bytes x, whole_field_again owners bytes x)

pub returns-clause-property : goal.returns-clause-property
returns-clause-property c = λ owners bytes x. (property_whole owners bytes x, whole_property_again owners bytes x)

pub returns-clause-locals : goal.returns-clause-locals
returns-clause-locals c = λ owners bytes x. (locals_whole owners bytes x, whole_locals_again owners bytes x)

pub returns-clause-instantiation : goal.returns-clause-instantiation
returns-clause-instantiation c = λ owners bytes x. (instantiation_whole owners bytes x, whole_instantiation_again owners bytes x)
