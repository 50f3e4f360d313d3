use Rattle.owner_numbers.proofs.Whole.{numbers_tell}
use Rattle.owner_numbers.proofs.numbers.OwnerNumbers.new.Goals as goal

pub classes_of-requires : goal.classes_of-requires
classes_of-requires g c = record {
  same = c.requires.same;
  meets = c.requires.meets;
  scopes = c.requires.scopes;
  told = c.requires.told;
  facts_are = c.requires.facts;
}

pub returns-clause-canon : goal.returns-clause-canon
returns-clause-canon g c = λ owners tells.
    numbers_tell c.args.image.now c.args.names.now c.requires.same c.tell_names.ensures c.requires.meets c.requires.scopes c.in_ok-classes.classes.items c.in_ok-classes.ensures owners tells
