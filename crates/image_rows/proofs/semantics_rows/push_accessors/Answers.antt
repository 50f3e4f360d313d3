use Rattle.std.proofs.Common.{◌≡◌, ◌∙◌, ap, sym, ℕ, ◌+◌, ◌≤◌, List, [], ◌∷◌, drop, get_or, drop_of_length-le, map, arith}
use Rattle.std.proofs.lemmas.List.{drop_more}
use Rattle.assembly_tree.specs.declared.members.Accessor.{Accessor}
use Rattle.image_rows.specs.SemanticsRows.{accessors_with}
use Rattle.image_rows.proofs.AccessorLemmas.{begin, front, go_on, end}
use Rattle.image_rows.proofs.semantics_rows.push_accessors.Goals as goal

pub loop-accessor-init : goal.loop-accessor-init
loop-accessor-init c = begin c.args.rows.now (accessors_with c.args.association c.args.first c.args.accessors.now) c.requires

pub push_accessor-requires : goal.push_accessor-requires
push_accessor-requires c =
    let xs = c.args.accessors.now in
    let i = c.loop-accessor.accessor-index in
    let none : Accessor = record { kind = 0; method = 0 } in
    let x = get_or xs i none in
    let of = accessors_with c.args.association c.args.first in
    let here : drop i xs ≡ x ∷ drop (i + 1) xs = drop_more xs i none (omega arith) in
    front c.args.rows.now c.loop-accessor.rows (of xs) (of (drop i xs)) (of (x ∷ [])) (of (drop (i + 1) xs)) (ap of here) c.loop-accessor.invariant

pub loop-accessor-preserved : goal.loop-accessor-preserved
loop-accessor-preserved c =
    let xs = c.args.accessors.now in
    let i = c.loop-accessor.accessor-index in
    let none : Accessor = record { kind = 0; method = 0 } in
    let x = get_or xs i none in
    let of = accessors_with c.args.association c.args.first in
    let here : drop i xs ≡ x ∷ drop (i + 1) xs = drop_more xs i none (omega arith) in
    go_on c.args.rows.now c.loop-accessor.rows c.push_accessor.new.rows (of xs) (of (drop i xs)) (of (x ∷ [])) (of (drop (i + 1) xs)) (ap of here) c.loop-accessor.invariant c.in_ok-push_accessor.ensures

pub returns : goal.returns
returns c =
    let xs = c.args.accessors.now in
    let i = c.loop-accessor.accessor-index in
    end c.args.rows.now c.loop-accessor.rows (accessors_with c.args.association c.args.first xs) (accessors_with c.args.association c.args.first (drop i xs)) (ap (accessors_with c.args.association c.args.first) (drop_of_length-le xs {i = i} (omega arith))) c.loop-accessor.invariant
