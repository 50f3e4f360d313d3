use Rattle.std.proofs.Common.{drop}
use Rattle.image_members.specs.ManifestRows.{IsExternRow, extern_bytes}
use Rattle.image_members.proofs.ManifestLemmas.{extern_kept, CanPush, can_push}
use Rattle.image_members.proofs.PushLemmas.{PushesTo}
use Rattle.image_rows.proofs.manifest_rows.push_externs.Given as goal

abbrev pub invariant-loop-named : goal.invariant-loop-named
invariant-loop-named l = PushesTo 0x23 IsExternRow extern_bytes extern_kept CanPush can_push l.initial.refs l.refs l.initial.rows l.rows l.externs (drop l.named-index l.externs)
