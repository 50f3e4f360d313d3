use Rattle.std.proofs.Common.{◌≡◌, ◌+◌, ℕ, [], length, subst, arith}
use Rattle.body_codec.specs.Instruction.{operand_size}
use Rattle.body_codec.specs.Chains.{IsShort}
use Rattle.body_codec.proofs.encoding.draft.Draft.push_branch.Goals as goal

pub returns-clause-watched : goal.returns-clause-watched
returns-clause-watched c = λ code done want d short.
    let e : length c.args.self.now.bytes + operand_size c.args.kind [] ≡ c.len-place.result + c.width.result =
    omega (arith, c.len-place.ensures, c.width.ensures.size) in
    let P : ℕ → Type 0 = IsShort code c.args.at c.args.to in
    c.push_target.ensures.watched code done want d (λ k. subst P e (short k))
