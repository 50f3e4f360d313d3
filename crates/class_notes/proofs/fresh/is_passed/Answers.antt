use Rattle.std.proofs.Common.{inl, inr}
use Rattle.class_notes.proofs.fresh.is_passed.Goals as goal

pub returns-then-is_pair : goal.returns-then-is_pair
returns-then-is_pair c t = inl (c.is_pair.ensures c.if-is_pair.true)

pub returns : goal.returns
returns c t = inr (c.has_face.ensures t)
