use Rattle.std.proofs.Common.{Some, sym, ◌∙◌, ap}
use Rattle.std.specs.Option.{option_map}
use Rattle.std.proofs.lemmas.Option.{same_Some}
use Rattle.distinct_members.proofs.signatures.blob_there.Goals as goal

pub returns-in-Some : goal.returns-in-Some
returns-in-Some c = λ bytes e. same_Some c.in-Some.blob.now bytes (c.in-Some.ensures ∙ e)

pub returns-in-None : goal.returns-in-None
returns-in-None c = λ bytes e. absurd (let n = c.in-None.ensures ∙ e in cc)
