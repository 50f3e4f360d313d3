use Rattle.laws_formed_sources.proofs.members.Entries.{one_entry}
use Rattle.laws_formed_sources.proofs.sources.Unbroken.{nothing_twice}
use Rattle.laws_formed_sources.proofs.members_laws.one_entry.Goals as goal

pub returns : goal.returns
returns c s r = one_entry s (c.derivations_have_bodies.ensures s r.read.derived).0 (c.derivations_have_bodies.ensures s r.read.derived).1 (nothing_twice s r.faultless).entries
