use Rattle.sig_codec.proofs.Unique.{has_method, has_property, has_locals, has_instantiation}
use Rattle.sig_codec.proofs.laws.what_is_read_has_a_spelling.Goals as goal

pub returns-clause-method : goal.returns-clause-method
returns-clause-method c = has_method

pub returns-clause-property : goal.returns-clause-property
returns-clause-property c = has_property

pub returns-clause-locals : goal.returns-clause-locals
returns-clause-locals c = has_locals

pub returns-clause-instantiation : goal.returns-clause-instantiation
returns-clause-instantiation c = has_instantiation
