use Rattle.sig_codec.proofs.Unique.{one_method, one_field, one_property, one_locals, one_instantiation}
use Rattle.sig_codec.proofs.laws.bytes_spell_one_signature.Goals as goal

pub returns-clause-method : goal.returns-clause-method
returns-clause-method c = one_method

pub returns-clause-field : goal.returns-clause-field
returns-clause-field c = one_field

pub returns-clause-property : goal.returns-clause-property
returns-clause-property c = one_property

pub returns-clause-locals : goal.returns-clause-locals
returns-clause-locals c = one_locals

pub returns-clause-instantiation : goal.returns-clause-instantiation
returns-clause-instantiation c = one_instantiation
