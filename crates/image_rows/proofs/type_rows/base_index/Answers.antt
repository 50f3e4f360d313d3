use Rattle.std.proofs.Common.{◌≡◌, ap, sym, subst, ◌≤◌, ◌+◌, arith}
use Rattle.image_rows.specs.TypeRows.{base_weight, Refers}
use Rattle.image_rows.proofs.TypeRowLemmas.{no_base, a_base, base_can}
use Rattle.image_rows.proofs.type_rows.base_index.Goals as goal

pub returns-in-None : goal.returns-in-None
returns-in-None c = no_base c.args.refs.now c.args.base.now c.requires.known c.in-None.is

pub refer_owner-requires-clause-writable : goal.refer_owner-requires-clause-writable
refer_owner-requires-clause-writable c = base_can c.args.refs.now c.args.base.now c.in-Some.owner c.in-Some.is c.requires.base

pub refer_owner-requires-clause-room : goal.refer_owner-requires-clause-room
refer_owner-requires-clause-room c = let weighs = ap base_weight c.in-Some.is in let room = c.requires.room in omega arith

pub returns-in_ok-token-in-Some : goal.returns-in_ok-token-in-Some
returns-in_ok-token-in-Some c =
    subst (Refers c.args.base.now c.args.refs.now c.refer_owner.new.refs) (sym c.index_of_token.ensures)
    (a_base c.args.refs.now c.refer_owner.new.refs c.args.base.now c.in-Some.owner c.in_ok-token-in-Some.token c.in-Some.is c.in_ok-token-in-Some.ensures)
