use Rattle.std.proofs.Common.{◌≡◌, ◌++◌, ap, sym, subst, refl, ◌∙◌}
use Rattle.std.specs.Prelude.{filter, not, true, None}
use Rattle.std.specs.List.{flat_map, list_all, list_any}
use Rattle.source_model.specs.BodyFaults.{is_same_name}
use Rattle.source_model.specs.DeclaredTwice.{repeats}
use Rattle.source_model.specs.Instructions.{instructions_of, is_label, labels, targets}
use Rattle.source_nodes.specs.Least.{least}
use Rattle.source_syntax.specs.Methods.{AreNames}
use Rattle.source_syntax.proofs.LabelTokens.{all_targets_are_names, labels_are_names}
use Rattle.check_visitor.proofs.LeastOfRules.{then_rule}
use Rattle.check_bodies.specs.AllOfBodies.{ends_in, far_in, twice_in, undeclared_in}
use Rattle.check_bodies.specs.KnownNames.{is_label_of, is_past}
use Rattle.check_bodies.proofs.BranchLemmas.{to_the_end}
use Rattle.check_bodies.proofs.EndLemmas.{none_at_end}
use Rattle.check_bodies.proofs.KnownLemmas.{labels_known, none_missing, none_numbered}
use Rattle.check_bodies.proofs.ShortCodeLemmas.{near_enough}
use Rattle.check_bodies.proofs.bodies.are_quiet.Goals as goal

pub returns : goal.returns
returns c s n r m at names plain is =
    let f = n.below in
    let ps = instructions_of f in
    let own = labels_are_names s f m.bodies in
    let these = subst (AreNames s) (sym names) own in
    let twice : None ≡ least (twice_in s n) = c.are_known.ensures.once s r these is ∙ ap (λ ks. least (repeats (is_same_name s) ks)) names in
    let declared : list_all (is_label_of s (labels f)) (flat_map targets ps) ≡ true =
    ap (λ ks. list_all (is_label_of s ks) (flat_map targets ps)) (sym names)
    ∙ c.are_known.ensures.declared s ps r these at (all_targets_are_names s f m.bodies) is in
    let missing : None ≡ least (undeclared_in s n) =
    sym (ap (λ ks. least (filter (λ k. not (is_label s f k)) ks)) (plain c.if-not-plain.false).named
    ∙ ap least (none_missing s f (flat_map targets ps) declared)) in
    let far : None ≡ least (far_in s n) = ap least (sym (near_enough s n c.args.method.now c.args.code.now at (sym c.is_short_code.ensures ∙ c.if-not-is_short_code.false))) in
    let past = ap (list_any (is_past ps)) (sym names) ∙ c.are_known.ensures.followed ps at is in
    let ends : None ≡ least (ends_in s n) =
    ap least (sym (to_the_end s f ps ∙ none_at_end s f (labels_known s f) _ (flat_map targets ps) (record { names-are = refl; numbers-are = refl }) (none_numbered f past))) in
    let both = twice_in s n ++ undeclared_in s n in
    then_rule None None None (both ++ far_in s n) (ends_in s n) refl
    (then_rule None None None both (far_in s n) refl (then_rule None None None (twice_in s n) (undeclared_in s n) refl twice missing) far)
    ends
