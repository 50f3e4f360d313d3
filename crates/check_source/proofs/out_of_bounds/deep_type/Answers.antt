use Rattle.std.proofs.Common.{◌∙◌, sym}
use Rattle.check_source.proofs.DepthBounds.{no_deep_type}
use Rattle.check_source.proofs.out_of_bounds.deep_type.Goals as goal

pub returns : goal.returns
returns c s r long = no_deep_type s (sym long ∙ c.if-census.false)
