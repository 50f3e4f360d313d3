use Rattle.std.proofs.Common.{◌≡◌, ap, sym, ◌∙◌, subst, ℕ, map, arith}
use Rattle.std.specs.List.{range_with_len}
use Rattle.assembly_tree.specs.declared.members.Generic.{Generic}
use Rattle.metadata_tables.specs.declared.coded.Coded.TheVariants.{TypeOrMethodDef}
use Rattle.image_members.specs.ByNumber.{by_number}
use Rattle.image_members.specs.GenericRows.{counted, generic_of, generics_at, generic_bytes, IsGenericRow, CanPushGeneric}
use Rattle.image_members.specs.Lists.{longest_of}
use Rattle.image_members.specs.Places.{lent}
use Rattle.image_members.specs.Pushing.{Pushes, CanPush}
use Rattle.image_members.proofs.EmptinessLemmas.{nothing_in_all}
use Rattle.image_members.proofs.GenericLemmas.{generic_kind}
use Rattle.image_members.proofs.KindLemmas.{none_pushed}
use Rattle.image_tables.proofs.owned_part.push_generic_rows.Goals as goal

pub longest_parametric-count-requires : goal.longest_parametric-count-requires
longest_parametric-count-requires c = let few = c.requires.owners in omega arith

pub push_all_generics-requires-clause-count : goal.push_all_generics-requires-clause-count
push_all_generics-requires-clause-count c = let few = c.requires.owners in let count = c.longest_parametric-count.ensures in omega arith

pub push_all_generics-requires-clause-can : goal.push_all_generics-requires-clause-can
push_all_generics-requires-clause-can c =
    subst (λ (n : ℕ). CanPush 0x2A CanPushGeneric generic_bytes (by_number TypeOrMethodDef (map counted c.args.tables.now) n) c.args.refs.now c.args.rows.now) (sym c.longest_parametric-count.ensures)
    c.requires.can

pub returns-clause-pushes : goal.returns-clause-pushes
returns-clause-pushes c =
    subst (λ (n : ℕ). Pushes 0x2A IsGenericRow generic_bytes (by_number TypeOrMethodDef (map counted c.args.tables.now) n) c.args.refs.now c.push_all_generics.new.refs c.args.rows.now c.push_all_generics.new.rows)
    c.longest_parametric-count.ensures c.in_ok-push_all_generics.ensures

pub returns-clause-order : goal.returns-clause-order
returns-clause-order c =
    subst (λ (n : ℕ). lent c.in_ok-generics.generics ≡ map generic_of (by_number TypeOrMethodDef (map counted c.args.tables.now) n)) c.longest_parametric-count.ensures c.in_ok-generics.ensures

pub returns-then-not-have_generics-clause-pushes : goal.returns-then-not-have_generics-clause-pushes
returns-then-not-have_generics-clause-pushes c =
    let none = nothing_in_all (generics_at c.args.tables.now) (c.have_generics.ensures.none c.if-not-have_generics.true) (range_with_len 0 (longest_of (map counted c.args.tables.now))) in
    subst (λ xs. Pushes 0x2A IsGenericRow generic_bytes xs c.args.refs.now c.args.refs.now c.args.rows.now c.args.rows.now) (sym none) (none_pushed generic_kind c.args.refs.now c.args.rows.now c.requires.can.known)

pub returns-then-not-have_generics-clause-order : goal.returns-then-not-have_generics-clause-order
returns-then-not-have_generics-clause-order c =
    let none = nothing_in_all (generics_at c.args.tables.now) (c.have_generics.ensures.none c.if-not-have_generics.true) (range_with_len 0 (longest_of (map counted c.args.tables.now))) in
    ap (lent {X = Generic}) c.new.ensures ∙ ap (map generic_of) (sym none)
