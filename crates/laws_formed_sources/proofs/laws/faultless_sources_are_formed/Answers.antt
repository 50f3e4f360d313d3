use Rattle.laws_formed_sources.specs.sources.Remaining.{Remains}
use Rattle.laws_formed_sources.proofs.laws.faultless_sources_are_formed.Goals as goal

pub returns : goal.returns
returns c s r =
    let left : Remains s = record {
      classes = λ n among is. record { accessors = c.accessors_are_methods.ensures s r n among is };
      fields = c.fields_have_contents.ensures s r;
      methods = c.instructions_fit.ensures s r;
      one_entry = c.one_entry.ensures s r;
    } in
    c.what_remains_suffices.ensures s r left
