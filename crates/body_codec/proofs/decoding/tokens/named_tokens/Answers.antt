use Rattle.body_codec.proofs.NamedDecoded.{only_tokens, only_fault_of_all}
use Rattle.body_codec.proofs.decoding.tokens.named_tokens.Goals as goal

pub returns-clause-only_tokens : goal.returns-clause-only_tokens
returns-clause-only_tokens c = only_tokens c.args.bytes.now c.read_tokens.result c.read_tokens.ensures.tokens c.read_tokens.ensures.fault

pub returns-clause-only_fault : goal.returns-clause-only_fault
returns-clause-only_fault c = only_fault_of_all c.args.bytes.now c.read_tokens.result c.read_tokens.ensures.tokens c.read_tokens.ensures.fault
