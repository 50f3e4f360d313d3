use Rattle.std.proofs.Common.{◌≡◌, ◌∙◌, ap, sym, subst, ℕ, ◌+◌, ◌≤◌, List, ◌∷◌, ◌++◌, drop, drop_of_length-le, length, arith}
use Rattle.std.specs.List.{flat_map}
use Rattle.std.proofs.lemmas.List.{drop_more}
use Rattle.assembly_tree.specs.Room.{method_texts, typedef_texts}
use Rattle.assembly_tree.specs.declared.typedef.TypeDef.{TypeDef}
use Rattle.assembly_tree.specs.declared.typedef.TypeDef.TheViews.{out-TypeDef}
use Rattle.image_tokens.specs.Loaded.{Loads, entry_sizes}
use Rattle.image_tokens.proofs.LoadsLemmas.{loads_begin, loads_fit, loads_on, loads_end, loads_both, sizes_both}
use Rattle.image_members.proofs.NestLemmas.{nested_fewer}
use Rattle.image_members.proofs.TextLemmas.{typedef_texts_out}
use Rattle.image_members.proofs.loading.+load_types.Goals as goal

pub loop-of-init : goal.loop-of-init
loop-of-init t c = loads_begin typedef_texts c.args.user.now c.args.types.now c.requires

pub load_methods-requires : goal.load_methods-requires
load_methods-requires t c =
    let xs = c.args.types.now in
    let i = c.loop-of.of-index in
    let x = c.of-item.result in
    let here : drop i xs ≡ x ∷ drop (i + 1) xs = drop_more xs i x (omega arith) ∙ ap (λ (y : TypeDef). y ∷ drop (i + 1) xs) (sym c.of-item.is) in
    let fits = loads_fit typedef_texts c.args.user.now c.loop-of.user xs (drop i xs) (drop (i + 1) xs) x here c.loop-of.invariant in
    let parts = ap entry_sizes (typedef_texts_out x) ∙ sizes_both (flat_map method_texts (out-TypeDef x).methods) (flat_map typedef_texts (out-TypeDef x).nested) in
    let lent = ap (λ ys. entry_sizes (flat_map method_texts ys)) c.as_slice.ensures in
    omega arith

pub load_types-requires : goal.load_types-requires
load_types-requires t c =
    let xs = c.args.types.now in
    let i = c.loop-of.of-index in
    let x = c.of-item.result in
    let here : drop i xs ≡ x ∷ drop (i + 1) xs = drop_more xs i x (omega arith) ∙ ap (λ (y : TypeDef). y ∷ drop (i + 1) xs) (sym c.of-item.is) in
    let fits = loads_fit typedef_texts c.args.user.now c.loop-of.user xs (drop i xs) (drop (i + 1) xs) x here c.loop-of.invariant in
    let parts = ap entry_sizes (typedef_texts_out x) ∙ sizes_both (flat_map method_texts (out-TypeDef x).methods) (flat_map typedef_texts (out-TypeDef x).nested) in
    let lent = ap (λ ys. entry_sizes (flat_map method_texts ys)) c.as_slice.ensures in
    let also = ap (λ ys. entry_sizes (flat_map typedef_texts ys)) c.as_slice-in-loop-of.ensures in
    let first = c.in_ok-load_methods.ensures.size in
    let fewer = nested_fewer xs c.as_slice-in-loop-of.result.now i x (omega arith) c.of-item.is c.as_slice-in-loop-of.ensures in
    let down = c.decreases in
    (omega arith, omega arith)

pub loop-of-preserved : goal.loop-of-preserved
loop-of-preserved t c =
    let xs = c.args.types.now in
    let i = c.loop-of.of-index in
    let x = c.of-item.result in
    let here : drop i xs ≡ x ∷ drop (i + 1) xs = drop_more xs i x (omega arith) ∙ ap (λ (y : TypeDef). y ∷ drop (i + 1) xs) (sym c.of-item.is) in
    let both = loads_both c.loop-of.user c.load_methods.new.user c.load_types.new.user (flat_map method_texts c.as_slice.result.now) (flat_map typedef_texts c.as_slice-in-loop-of.result.now)
    c.in_ok-load_methods.ensures c.in_ok-load_types.ensures in
    let whole = typedef_texts_out x ∙ (λ k. flat_map method_texts (sym c.as_slice.ensures k) ++ flat_map typedef_texts (sym c.as_slice-in-loop-of.ensures k)) in
    loads_on typedef_texts c.args.user.now c.loop-of.user c.load_types.new.user xs (drop i xs) (drop (i + 1) xs) x here c.loop-of.invariant
    (subst (λ (ys : List (List ℕ)). Loads c.loop-of.user c.load_types.new.user ys) (sym whole) both)

pub returns : goal.returns
returns t c =
    let xs = c.args.types.now in
    let i = c.loop-of.of-index in
    loads_end typedef_texts c.args.user.now c.loop-of.user xs (drop i xs) (drop_of_length-le xs {i = i} (omega arith)) c.loop-of.invariant
