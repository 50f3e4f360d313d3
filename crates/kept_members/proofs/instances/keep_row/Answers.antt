use Rattle.image_model.specs.Rows.{token_of}
use Rattle.kept_members.specs.Maps.{all_of}
use Rattle.kept_members.specs.Members.{IsMethodOf}
use Rattle.kept_members.proofs.Adding.{on_ok, adds_at, has_at}
use Rattle.kept_members.proofs.instances.keep_row.Goals as goal

pub returns-clause-adds : goal.returns-clause-adds
returns-clause-adds c =
    on_ok c.keep.result c.keep.ensures.ok
    (λ put. adds_at (IsMethodOf c.args.image.now c.args.known.now) (all_of c.args.methods.now) (all_of c.keep.new.self) c.token_of.result (token_of 0x2B c.args.row) c.in_ok-method.method put c.token_of.ensures c.in_ok-method.ensures)

pub returns-clause-has : goal.returns-clause-has
returns-clause-has c =
    on_ok c.keep.result c.keep.ensures.ok
    (λ put. has_at (all_of c.args.methods.now) (all_of c.keep.new.self) c.token_of.result (token_of 0x2B c.args.row) c.in_ok-method.method put c.token_of.ensures)
