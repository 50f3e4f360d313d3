use Rattle.laws_formed_sources.proofs.sources.Declared.{declared_path}
use Rattle.laws_formed_sources.proofs.sources.Unbroken.{nothing_twice}
use Rattle.laws_formed_sources.proofs.sources_laws.classes_are_declared.Goals as goal

pub returns : goal.returns
returns c s r = declared_path s (nothing_twice s r.faultless)
