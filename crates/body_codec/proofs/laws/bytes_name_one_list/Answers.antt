use Rattle.body_codec.proofs.NamedDecoded.{tokens_tell}
use Rattle.body_codec.proofs.laws.bytes_name_one_list.Goals as goal

pub returns : goal.returns
returns c = tokens_tell
