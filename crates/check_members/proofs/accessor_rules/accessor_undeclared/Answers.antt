use Rattle.std.proofs.Common.{◌≡◌, ◌<◌, ◌^◌, ◌∙◌, ap, length, refl, subst, sym}
use Rattle.std.specs.Prelude.{false}
use Rattle.std.specs.List.{list_any}
use Rattle.std.proofs.lemmas.Result.{IfOk-weaker}
use Rattle.source_model.specs.Forest.{preorder}
use Rattle.source_model.specs.Nodes.{nothing_around}
use Rattle.source_model.specs.Undeclared.{accessors_undeclared}
use Rattle.source_nodes.specs.Least.{least}
use Rattle.check_members.specs.OwnMethods.{is_owner}
use Rattle.check_members.proofs.AccessorWalks.{all_undeclared}
use Rattle.check_members.proofs.OwnerLemmas.{no_owner}
use Rattle.check_members.proofs.ReadLemmas.{around_nothing, names_of_nothing, serves_by}
use Rattle.check_members.proofs.accessor_rules.accessor_undeclared.Goals as goal

pub returns-then-not-has_owner : goal.returns-then-not-has_owner
returns-then-not-has_owner g c s r names owns breaks =
    let none : list_any is_owner (preorder s.tree) ≡ false = ap (list_any is_owner) r.nodes ∙ sym c.has_owner.ensures ∙ c.if-not-has_owner.true in
    sym (ap least (sym (all_undeclared s) ∙ no_owner s nothing_around s.tree none))

pub returns : goal.returns
returns g c s r names owns breaks =
    let few : length (preorder s.tree) < 2 ^ 32 = subst (λ ns. length ns < 2 ^ 32) (sym r.nodes) c.requires.few in
    let bodies = (c.derivations_have_bodies.ensures s r.derived).1 in
    IfOk-weaker c.undeclared_in.result _ (λ k. k ≡ least (accessors_undeclared s)) (λ k h. h ∙ ap least (all_undeclared s))
    (c.undeclared_in.ensures.found s nothing_around s.tree
    (serves_by (g.R.Rule.broken c.args.rule.now) s _ c.args.externs.now c.args.own.now refl refl names owns breaks few) r (around_nothing _ refl refl refl) (names_of_nothing s _ c.new-none.ensures c.new-none.ensures refl)
    (sym c.new-path.ensures) c.new-methods.ensures r.nodes bodies)
