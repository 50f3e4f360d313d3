use Rattle.std.proofs.Common.{◌≡◌, ◌∙◌, ap, sym, subst, ◌+◌, ◌≤◌, List, ℕ, length, [], ◌++◌, arith}
use Rattle.std.specs.List.{flat_map}
use Rattle.assembly_tree.specs.Room.{method_texts, typedef_texts}
use Rattle.heaps.specs.Heap.{Heap}
use Rattle.image_tokens.specs.Loaded.{AreLoaded, entry_sizes}
use Rattle.image_tokens.proofs.LoadsLemmas.{loads_both, sizes_both}
use Rattle.image_members.proofs.TextLemmas.{whole_texts, none_loaded}
use Rattle.image_members.proofs.TextWeights.{texts_fit}
use Rattle.image_members.proofs.loading.load_texts.Goals as goal

pub returns-then-not-loads : goal.returns-then-not-loads
returns-then-not-loads c =
    subst (λ (xs : List (List ℕ)). AreLoaded c.in_ok-user.user xs) (sym (c.requires.loads c.if-not-loads.true)) (none_loaded c.in_ok-user.user c.in_ok-user.ensures)

pub load_methods-requires : goal.load_methods-requires
load_methods-requires c =
    let a = c.args.a.now in
    let whole = ap entry_sizes (whole_texts a) ∙ sizes_both (flat_map method_texts a.methods) (flat_map typedef_texts a.types) in
    let lent = ap (λ xs. entry_sizes (flat_map method_texts xs)) c.as_slice.ensures in
    let begun = ap (λ (h : Heap). length h.bytes) c.in_ok-user.ensures in
    let room = c.requires.weight in
    let fits = texts_fit a in
    omega arith

pub load_types-requires : goal.load_types-requires
load_types-requires c =
    let a = c.args.a.now in
    let whole = ap entry_sizes (whole_texts a) ∙ sizes_both (flat_map method_texts a.methods) (flat_map typedef_texts a.types) in
    let lent = ap (λ xs. entry_sizes (flat_map method_texts xs)) c.as_slice.ensures in
    let also = ap (λ xs. entry_sizes (flat_map typedef_texts xs)) c.as_slice-2.ensures in
    let begun = ap (λ (h : Heap). length h.bytes) c.in_ok-user.ensures in
    let first = c.in_ok-load_methods.ensures.size in
    let room = c.requires.weight in
    let fits = texts_fit a in
    omega arith

pub returns : goal.returns
returns c =
    let a = c.args.a.now in
    let both = loads_both c.in_ok-user.user c.load_methods.new.user c.load_types.new.user (flat_map method_texts c.as_slice.result.now) (flat_map typedef_texts c.as_slice-2.result.now)
    c.in_ok-load_methods.ensures c.in_ok-load_types.ensures in
    let whole = whole_texts a ∙ (λ i. flat_map method_texts (sym c.as_slice.ensures i) ++ flat_map typedef_texts (sym c.as_slice-2.ensures i)) in
    subst (λ (xs : List (List ℕ)). AreLoaded c.load_types.new.user xs) (sym whole) (both.loaded [] (none_loaded c.in_ok-user.user c.in_ok-user.ensures))
