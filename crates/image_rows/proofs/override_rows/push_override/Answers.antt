use Rattle.std.proofs.Common.{◌≡◌, subst, ℕ, [], ◌∷◌}
use Rattle.metadata_tables.specs.Encoding.{AddsRow}
use Rattle.metadata_tables.specs.declared.coded.Coded.TheVariants.{MethodDefOrRef}
use Rattle.image_tokens.specs.Indexes.{index_of}
use Rattle.image_members.proofs.KindLemmas.{one_can, one_few, one_room}
use Rattle.image_rows.proofs.OverrideLemmas.{override_kind, override_cells, override_pushed}
use Rattle.image_rows.proofs.override_rows.push_override.Goals as goal

pub refer_method-requires-clause-known : goal.refer_method-requires-clause-known
refer_method-requires-clause-known c = c.requires.can.known

pub refer_method-requires-clause-writable : goal.refer_method-requires-clause-writable
refer_method-requires-clause-writable c = one_can override_kind c.args.refs.now c.args.rows.now _ c.requires.can

pub refer_method-requires-clause-room : goal.refer_method-requires-clause-room
refer_method-requires-clause-room c = one_room override_kind c.args.refs.now c.args.rows.now _ c.requires.can

pub push-requires-clause-room : goal.push-requires-clause-room
push-requires-clause-room c = one_few override_kind c.args.refs.now c.args.rows.now _ c.requires.can

pub push-requires-clause-cells : goal.push-requires-clause-cells
push-requires-clause-cells c = override_cells c.row_of_columns.ensures c.args.of c.index_of.result c.index_of_token.result

pub returns : goal.returns
returns c =
    override_pushed c.args.refs.now c.refer_method.new.refs c.args.rows.now c.push.new.self c.args.of c.args.body c.args.method.now c.in_ok-token.token c.in_ok-token.ensures
    (subst (λ (n : ℕ). AddsRow c.args.rows.now c.push.new.self 0x19 (c.args.of ∷ index_of MethodDefOrRef 0x06 c.args.body ∷ n ∷ [])) c.index_of_token.ensures
    (subst (λ (n : ℕ). AddsRow c.args.rows.now c.push.new.self 0x19 (c.args.of ∷ n ∷ c.index_of_token.result ∷ [])) c.index_of.ensures c.in_ok-push.ensures.added))
