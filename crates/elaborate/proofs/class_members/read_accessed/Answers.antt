use Rattle.std.proofs.Common.{◌≡◌, length, map, ap, sym, ◌∙◌}
use Rattle.source_model.specs.Items.{members}
use Rattle.source_model.specs.Members.{event, method_forests, property}
use Rattle.lower_members.specs.SignedMethods.{declared, signed}
use Rattle.elaborate.proofs.ClassLemmas.{few_methods, members_ranged, none_accessed, signed_methods}
use Rattle.elaborate.proofs.class_members.read_accessed.Goals as goal

pub returns-then-not-has_accessed : goal.returns-then-not-has_accessed
returns-then-not-has_accessed c s a x f e each are methods =
    let ms = method_forests (members f) in
    let none = none_accessed c.args.nodes.now c.args.found.now (members f) are (sym c.has_accessed.ensures ∙ c.if-not-has_accessed.true) in
    record {
      properties-are = c.new.ensures ∙ sym (ap (map (property s a ms)) none.0);
      events-are = c.new-then-not-has_accessed.ensures ∙ sym (ap (map (event s a ms)) none.1);
    }

pub returns : goal.returns
returns c s a x f e each are methods =
    let ms = method_forests (members f) in
    let ranged = members_ranged s f each in
    let table : c.in_ok-table.table ≡ map (declared s a) ms = c.in_ok-table.ensures ∙ ap (map signed) methods ∙ signed_methods s a ms in
    let few = few_methods f (length c.args.nodes.now) (ap length e) c.requires.few in
    record {
      properties-are = c.in_ok-properties.ensures s a x (members f) ms are ranged table few;
      events-are = c.in_ok-events.ensures s a x (members f) ms are ranged table few;
    }
