use Rattle.std.proofs.Common.{◌≡◌, ◌∙◌, ap, sym, length, ◌+◌, ◌≤◌, None, arith}
use Rattle.std.proofs.lemmas.Result.{IfOk-weaker}
use Rattle.sig_codec.specs.Spelling.{SpellsType}
use Rattle.image_tokens.specs.Found.{token_in}
use Rattle.image_tokens.specs.KnownTokens.{types_apart}
use Rattle.image_tokens.specs.Noted.{longest}
use Rattle.image_tokens.specs.References.{tokens_of}
use Rattle.image_tokens.proofs.AddedLemmas.{spec_found, written_blob, specified_then}
use Rattle.image_tokens.proofs.SpellingSizes.{type_within}
use Rattle.image_tokens.proofs.type_specs.refer_type.Goals as goal

pub returns-in-Some : goal.returns-in-Some
returns-in-Some c = spec_found c.args.refs.now c.args.of.now (longest c.args.of.now) c.in-Some.token c.requires.known (sym c.in-Some.ensures)

pub refer_blob-requires-clause-room : goal.refer_blob-requires-clause-room
refer_blob-requires-clause-room c =
    let short = type_within (tokens_of c.args.refs.now) c.args.of.now c.in_ok-bytes.bytes c.in_ok-bytes.ensures in
    let same = ap length c.as_slice.ensures in
    let room = c.requires.room in
    omega arith

pub add_row-requires-clause-known : goal.add_row-requires-clause-known
add_row-requires-clause-known c = c.in_ok-blob.ensures.goes.known

pub add_row-requires-clause-lacks : goal.add_row-requires-clause-lacks
add_row-requires-clause-lacks c =
    let none : token_in types_apart c.args.refs.now.known.specs c.args.of.now ≡ None = cc (c.find.ensures, c.in_default.is) in
    ap (λ k. token_in types_apart k.specs c.args.of.now) c.refer_blob.ensures.same ∙ none

pub add_row-requires-clause-signature : goal.add_row-requires-clause-signature
add_row-requires-clause-signature c =
    written_blob SpellsType c.args.refs.now c.refer_blob.new.refs c.args.of.now c.in_ok-bytes.bytes c.in_ok-blob.blob c.in_ok-blob.ensures.goes.grows
    (rw (← c.as_slice.ensures) c.in_ok-blob.ensures.holds) c.in_ok-bytes.ensures

pub add_row-requires-clause-room : goal.add_row-requires-clause-room
add_row-requires-clause-room c =
    let short = type_within (tokens_of c.args.refs.now) c.args.of.now c.in_ok-bytes.bytes c.in_ok-bytes.ensures in
    let same = ap length c.as_slice.ensures in
    let size = c.in_ok-blob.ensures.goes.size in
    let room = c.requires.room in
    omega arith

pub returns : goal.returns
returns c =
    let len = length c.as_slice.result.now in
    let short = type_within (tokens_of c.args.refs.now) c.args.of.now c.in_ok-bytes.bytes c.in_ok-bytes.ensures in
    let same = ap length c.as_slice.ensures in
    let fits : len + 4 + 4 ≤ longest c.args.of.now + 12 = omega arith in
    IfOk-weaker c.add_row.result _ _ (λ token h. specified_then c.args.refs.now c.refer_blob.new.refs c.add_row.new.refs c.args.of.now len (longest c.args.of.now + 12) token c.in_ok-blob.ensures.goes fits h) c.add_row.ensures
