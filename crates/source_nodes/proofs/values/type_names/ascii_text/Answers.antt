use Rattle.std.proofs.lemmas.Str.{IsUtf8-from_ascii}
use Rattle.source_nodes.proofs.values.type_names.ascii_text.Goals as goal

pub from_utf8_unchecked-text-requires : goal.from_utf8_unchecked-text-requires
from_utf8_unchecked-text-requires c = IsUtf8-from_ascii c.args.bytes.now c.requires
