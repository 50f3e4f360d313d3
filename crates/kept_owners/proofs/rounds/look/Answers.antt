use Rattle.std.proofs.Common.{refl, arith}
use Rattle.type_terms.specs.declared.term.Owner.TheVariants.{Spec}
use Rattle.kept_owners.proofs.Keeping.{put_goes, is_there, spelled_so}
use Rattle.kept_owners.proofs.rounds.look.Goals as goal

pub returns-in-None : goal.returns-in-None
returns-in-None c = (refl, rw c.in-None.is at c.in_ok-type_of.ensures)

pub returns-in_ok-put-in-Some : goal.returns-in_ok-put-in-Some
returns-in_ok-put-in-Some c =
    let old = c.args.kept.now in
    let new = c.put.new.kept in
    let adds = c.in_ok-put-in-Some.ensures in (
      put_goes old new 0x1B c.args.row (Spec c.in-Some.term) adds c.args.image.now (let r = c.ranges.row in omega arith)
          (λ sound owners tells. spelled_so c.args.image.now old c.args.row c.in-Some.term c.requires.there (rw c.in-Some.is at c.in_ok-type_of.ensures) sound owners tells),
      is_there old new 0x1B c.args.row (Spec c.in-Some.term) adds,
    )
