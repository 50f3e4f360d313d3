use Rattle.std.specs.Prelude.{◌↔◌, IsTrue}
use Rattle.body_outlines.specs.Outlines.{Outlines}
use Rattle.body_outlines.specs.declared.outlined.BodyOutline.{BodyOutline}
use Rattle.image_model.specs.Bodies.{body_of}
use Rattle.body_tokens.specs.Tokens.{AreKnown}
use Rattle.body_tokens.proofs.Searching.{known_told, no_memory}
use Rattle.body_tokens.proofs.search.has_known_tokens.Goals as goal

pub returns-in-Ok : goal.returns-in-Ok
returns-in-Ok c =
    known_told c.args.image.now c.body_bytes-bytes.result.now (body_of c.args.image.now c.args.method) c.in-Ok.told c.are_known.result c.body_bytes-bytes.ensures c.in-Ok.ensures.outline c.are_known.ensures

pub returns-in-Err : goal.returns-in-Err
returns-in-Err c =
    no_memory c.body_bytes-bytes.result.now (body_of c.args.image.now c.args.method) c.in-Err.fault
    (λ b. (o : BodyOutline) → Outlines (body_of c.args.image.now c.args.method) o → IsTrue b ↔ AreKnown c.args.image.now o)
    c.known_by.result c.body_bytes-bytes.ensures c.requires.good.outline c.in-Err.ensures.only_outline c.known_by.ensures
