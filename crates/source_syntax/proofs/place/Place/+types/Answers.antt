use Rattle.std.proofs.Common.{◌≡◌, ◌≤◌, [], sym, subst, ◌∙◌, arith}
use Rattle.std.specs.Prelude.{IfOk, MatchOption}
use Rattle.type_terms.specs.declared.term.SigType.TheVariants.{Prim}
use Rattle.ilasm_grammar.specs.declared.productions.TheConstants.{TYPE, SPEC_TYPE_NAME, SPEC_TYPE, TYPE_BASE_INT_TYPE, TYPE_BASE_VOID}
use Rattle.source_model.specs.Types.{base_type, the_owner}
use Rattle.source_syntax.specs.BaseTypes.{made_type}
use Rattle.source_nodes.proofs.Collecting.{below_is, after_is, behind_is, is_branch}
use Rattle.source_syntax.proofs.TypeWalks.{types_start, types_take, types_go_in, types_end, type_found, word_split, no_type, type_split, wraps_start, suffix_branch, wraps_take, wraps_go_in, wraps_end, modreq_is, modopt_is, mod_is, Types, owners_start, owners_go_in, no_owner, name_is_owner, type_is_owner, empty_type, other_type}
use Rattle.source_syntax.proofs.place.Place.+types.Goals as goal

-- ---- all types

pub types_in-loop-x-init : goal.types_in-loop-x-init
types_in-loop-x-init t c = record {
  within = omega arith;
  forest = c.requires;
  so_far = λ s a x f e h. subst (λ ts. Types s a f c.args.nodes.now ts) (sym c.new-types.ensures) (types_start s a f c.args.nodes.now e h);
}

pub types_in-type_of-requires : goal.types_in-type_of-requires
types_in-type_of-requires t c =
    let b = is_branch TYPE c.in-Some.x.node (sym c.is_of.ensures ∙ c.if-is_of.true) in
    (omega (arith, c.in-Some.ensures.lower, c.loop-x.invariant.within), below_is c.loop-x.left.now c.in-Some.x TYPE b.0 c.in-Some.ensures b.1 c.loop-x.invariant.forest)

pub types_in-loop-x-preserved-then-is_of : goal.types_in-loop-x-preserved-then-is_of
types_in-loop-x-preserved-then-is_of t c =
    let b = is_branch TYPE c.in-Some.x.node (sym c.is_of.ensures ∙ c.if-is_of.true) in
    record {
      within = omega (arith, c.in-Some.ensures.later, c.loop-x.invariant.within);
      forest = after_is c.loop-x.left.now c.in-Some.x TYPE b.0 c.in-Some.ensures b.1 c.loop-x.invariant.forest;
      so_far = λ s a x f e h.
          types_take s a f c.loop-x.left.now c.in-Some.x c.loop-x.types c.push.new.self b.0 c.in_ok-of.of c.in-Some.ensures b.1
          (λ g i fits each. c.in_ok-of.ensures s a x g i fits each) c.in_ok-push.ensures.ok (c.loop-x.invariant.so_far s a x f e h);
    }

pub types_in-loop-x-preserved : goal.types_in-loop-x-preserved
types_in-loop-x-preserved t c = record {
  within = omega (arith, c.in-Some.ensures.fewer, c.loop-x.invariant.within);
  forest = behind_is c.loop-x.left.now c.in-Some.x c.in-Some.ensures c.loop-x.invariant.forest;
  so_far = λ s a x f e h.
      types_go_in s a f c.loop-x.left.now c.in-Some.x c.loop-x.types c.in-Some.ensures (sym c.is_of.ensures ∙ c.if-is_of.false) (c.loop-x.invariant.so_far s a x f e h);
}

pub types_in-returns : goal.types_in-returns
types_in-returns t c s a x f e h = types_end s a f c.loop-x.left.now c.loop-x.types c.in_default.ensures (c.loop-x.invariant.so_far s a x f e h)

-- ---- a type

pub type_of-returns-in_default : goal.type_of-returns-in_default
type_of-returns-in_default t c s a x f e fits h = empty_type s a f (e ∙ c.in_default.ensures)

pub type_of-returns-in_default-node : goal.type_of-returns-in_default-node
type_of-returns-in_default-node t c s a x f e fits h =
    other_type s a f c.args.nodes.now c.in-Some.x c.in-Some.ensures e (λ p count is. c.in_default-node.not-Branch p count is)

pub type_of-returns : goal.type_of-returns
type_of-returns t c s a x f e fits h =
    let r = type_split s a f c.args.nodes.now c.in-Some.x c.in-Branch.production _ c.in_ok-args.args c.in_ok-base.base c.in-Some.ensures c.in-Branch.is e fits h
    (λ g i each. c.in_ok-args.ensures s a x g i each) (λ g i head sound each. c.in_ok-base.ensures s a x g i head sound each) in
    subst (λ w. IfOk c.suffixed-2.result (λ of. of ≡ w)) r.is (c.suffixed-2.ensures s a x r.rest r.rest-is r.each)

pub type_of-returns-in-Some-word_type : goal.type_of-returns-in-Some-word_type
type_of-returns-in-Some-word_type t c s a x f e fits h =
    let p = c.in-Branch.production in
    let r = word_split s a f c.args.nodes.now c.in-Some.x p _ (Prim c.in-Some-word_type.prim) c.in-Some.ensures c.in-Branch.is e h
    (λ b args. subst (λ o. MatchOption o ((base_type s a p b args ≡ made_type s a p b args) × (TYPE_BASE_VOID ≤ p → TYPE_BASE_INT_TYPE ≤ p)) (λ prim. base_type s a p b args ≡ Prim prim)) c.in-Some-word_type.is (c.word_type.ensures s a b args)) in
    subst (λ w. IfOk c.suffixed.result (λ of. of ≡ w)) r.is (c.suffixed.ensures s a x r.rest r.rest-is r.each)

pub type_of-types_in-requires : goal.type_of-types_in-requires
type_of-types_in-requires t c =
    (omega (arith, c.in-Some.ensures.lower), below_is c.args.nodes.now c.in-Some.x c.in-Branch.production _ c.in-Some.ensures c.in-Branch.is c.requires)

pub type_of-base_type-requires : goal.type_of-base_type-requires
type_of-base_type-requires t c = below_is c.args.nodes.now c.in-Some.x c.in-Branch.production _ c.in-Some.ensures c.in-Branch.is c.requires

pub type_of-suffixed-requires : goal.type_of-suffixed-requires
type_of-suffixed-requires t c =
    (omega (arith, c.in-Some.ensures.later), after_is c.args.nodes.now c.in-Some.x c.in-Branch.production _ c.in-Some.ensures c.in-Branch.is c.requires)

pub type_of-suffixed-requires-2 : goal.type_of-suffixed-requires-2
type_of-suffixed-requires-2 t c =
    (omega (arith, c.in-Some.ensures.later), after_is c.args.nodes.now c.in-Some.x c.in-Branch.production _ c.in-Some.ensures c.in-Branch.is c.requires)

-- ---- suffixes

pub suffixed-loop-x-init : goal.suffixed-loop-x-init
suffixed-loop-x-init t c = record {
  within = omega arith;
  forest = c.requires;
  so_far = λ s a x f e h. wraps_start s a f c.args.nodes.now c.args.base e h;
}

pub suffixed-with_suffix-requires : goal.suffixed-with_suffix-requires
suffixed-with_suffix-requires t c =
    let b = suffix_branch c.in-Some.x.node (sym c.is_suffix.ensures ∙ c.if-is_suffix.true) in (
      omega (arith, c.in-Some.ensures.lower, c.loop-x.invariant.within),
      (below_is c.loop-x.left.now c.in-Some.x b.0 b.1 c.in-Some.ensures b.2 c.loop-x.invariant.forest, c.in-Some.ensures.few),
    )

pub suffixed-loop-x-preserved-then-is_suffix : goal.suffixed-loop-x-preserved-then-is_suffix
suffixed-loop-x-preserved-then-is_suffix t c =
    let known = sym c.is_suffix.ensures ∙ c.if-is_suffix.true in
    let b = suffix_branch c.in-Some.x.node known in
    record {
      within = omega (arith, c.in-Some.ensures.later, c.loop-x.invariant.within);
      forest = after_is c.loop-x.left.now c.in-Some.x b.0 b.1 c.in-Some.ensures b.2 c.loop-x.invariant.forest;
      so_far = λ s a x f e h.
          wraps_take s a _ c.loop-x.left.now c.in-Some.x c.loop-x.of _ c.in-Some.ensures known (λ g i sound each. c.in_ok-of.ensures s a x g i known sound each)
          (c.loop-x.invariant.so_far s a x f e h);
    }

pub suffixed-loop-x-preserved : goal.suffixed-loop-x-preserved
suffixed-loop-x-preserved t c = record {
  within = omega (arith, c.in-Some.ensures.fewer, c.loop-x.invariant.within);
  forest = behind_is c.loop-x.left.now c.in-Some.x c.in-Some.ensures c.loop-x.invariant.forest;
  so_far = λ s a x f e h.
      wraps_go_in s a _ c.loop-x.left.now c.in-Some.x c.loop-x.of c.in-Some.ensures (sym c.is_suffix.ensures ∙ c.if-is_suffix.false) (c.loop-x.invariant.so_far s a x f e h);
}

pub suffixed-returns : goal.suffixed-returns
suffixed-returns t c s a x f e h = wraps_end s a _ c.loop-x.left.now c.loop-x.of c.in_default.ensures (c.loop-x.invariant.so_far s a x f e h)

pub with_suffix-returns-then-is_of : goal.with_suffix-returns-then-is_of
with_suffix-returns-then-is_of t c s a x f e known sound h =
    subst (λ w. IfOk c.modified.result (λ with. with ≡ w)) (modreq_is s a c.args.node f c.args.of (sym c.is_of.ensures ∙ c.if-is_of.true)) (c.modified.ensures s a x f e h)

pub with_suffix-returns-then-is_of-2 : goal.with_suffix-returns-then-is_of-2
with_suffix-returns-then-is_of-2 t c s a x f e known sound h =
    subst (λ w. IfOk c.modified-then-is_of-2.result (λ with. with ≡ w)) (modopt_is s a c.args.node f c.args.of (sym c.is_of-2.ensures ∙ c.if-is_of-2.true))
    (c.modified-then-is_of-2.ensures s a x f e h)

pub with_suffix-returns : goal.with_suffix-returns
with_suffix-returns t c s a x f e known sound h =
    c.with_plain_suffix.ensures s a x f e known (sym c.is_of.ensures ∙ c.if-is_of.false) (sym c.is_of-2.ensures ∙ c.if-is_of-2.false) sound h

pub modified-returns : goal.modified-returns
modified-returns t c s a x f e h =
    mod_is c.args.required c.in_ok-by-2.by (the_owner s a f) c.in_ok-of.of c.args.of (c.in_ok-by-2.ensures ∙ c.in_ok-by.ensures s a x f e h) c.in_ok-of.ensures

-- ---- the first type

pub first_type-loop-x-init : goal.first_type-loop-x-init
first_type-loop-x-init t c = record {
  within = omega arith;
  forest = c.requires;
  so_far = λ s a f e h. types_start s a f c.args.nodes.now e h;
}

pub first_type-type_of-requires : goal.first_type-type_of-requires
first_type-type_of-requires t c =
    let b = is_branch TYPE c.in-Some.x.node (sym c.is_of.ensures ∙ c.if-is_of.true) in
    (omega (arith, c.in-Some.ensures.lower, c.loop-x.invariant.within), below_is c.loop-x.left.now c.in-Some.x TYPE b.0 c.in-Some.ensures b.1 c.loop-x.invariant.forest)

pub first_type-returns-then-is_of : goal.first_type-returns-then-is_of
first_type-returns-then-is_of t c s a x f e h =
    let b = is_branch TYPE c.in-Some.x.node (sym c.is_of.ensures ∙ c.if-is_of.true) in
    let n = type_found s a f c.loop-x.left.now c.in-Some.x b.0 c.in-Some.ensures b.1 (c.loop-x.invariant.so_far s a f e h) in
    subst (λ w. IfOk c.type_of.result (λ of. of ≡ w)) (sym n.is) (c.type_of.ensures s a x n.inner n.inner-is n.fits n.each)

pub first_type-loop-x-preserved : goal.first_type-loop-x-preserved
first_type-loop-x-preserved t c = record {
  within = omega (arith, c.in-Some.ensures.fewer, c.loop-x.invariant.within);
  forest = behind_is c.loop-x.left.now c.in-Some.x c.in-Some.ensures c.loop-x.invariant.forest;
  so_far = λ s a f e h.
      types_go_in s a f c.loop-x.left.now c.in-Some.x [] c.in-Some.ensures (sym c.is_of.ensures ∙ c.if-is_of.false) (c.loop-x.invariant.so_far s a f e h);
}

pub first_type-returns : goal.first_type-returns
first_type-returns t c s a x f e h = no_type s a f c.loop-x.left.now c.in_default.ensures (c.loop-x.invariant.so_far s a f e h)

-- ---- the first owner

pub first_owner-loop-x-init : goal.first_owner-loop-x-init
first_owner-loop-x-init t c = record {
  within = omega arith;
  forest = c.requires;
  so_far = λ s a f e h. owners_start s a f c.args.nodes.now e h;
}

pub first_owner-type_name-requires : goal.first_owner-type_name-requires
first_owner-type_name-requires t c =
    let b = is_branch SPEC_TYPE_NAME c.in-Some.x.node (sym c.is_of.ensures ∙ c.if-is_of.true) in
    below_is c.loop-x.left.now c.in-Some.x SPEC_TYPE_NAME b.0 c.in-Some.ensures b.1 c.loop-x.invariant.forest

pub first_owner-returns-then-is_of : goal.first_owner-returns-then-is_of
first_owner-returns-then-is_of t c s a x f e h =
    let b = is_branch SPEC_TYPE_NAME c.in-Some.x.node (sym c.is_of.ensures ∙ c.if-is_of.true) in
    name_is_owner s a f c.loop-x.left.now c.in-Some.x b.0 c.in_ok-name.name c.in-Some.ensures b.1 (λ g i bodies. c.in_ok-name.ensures s a x g i bodies)
    (c.loop-x.invariant.so_far s a f e h)

pub first_owner-first_type-requires : goal.first_owner-first_type-requires
first_owner-first_type-requires t c =
    let b = is_branch SPEC_TYPE c.in-Some.x.node (sym c.is_of-in-Some.ensures ∙ c.if-is_of-2.true) in
    (omega (arith, c.in-Some.ensures.lower, c.loop-x.invariant.within), below_is c.loop-x.left.now c.in-Some.x SPEC_TYPE b.0 c.in-Some.ensures b.1 c.loop-x.invariant.forest)

pub first_owner-returns-then-is_of-2 : goal.first_owner-returns-then-is_of-2
first_owner-returns-then-is_of-2 t c s a x f e h =
    let b = is_branch SPEC_TYPE c.in-Some.x.node (sym c.is_of-in-Some.ensures ∙ c.if-is_of-2.true) in
    type_is_owner s a f c.loop-x.left.now c.in-Some.x b.0 c.in_ok-of.of c.in-Some.ensures b.1 (λ g i each. c.in_ok-of.ensures s a x g i each)
    (c.loop-x.invariant.so_far s a f e h)

pub first_owner-loop-x-preserved : goal.first_owner-loop-x-preserved
first_owner-loop-x-preserved t c = record {
  within = omega (arith, c.in-Some.ensures.fewer, c.loop-x.invariant.within);
  forest = behind_is c.loop-x.left.now c.in-Some.x c.in-Some.ensures c.loop-x.invariant.forest;
  so_far = λ s a f e h.
      owners_go_in s a f c.loop-x.left.now c.in-Some.x c.in-Some.ensures (sym c.is_of.ensures ∙ c.if-is_of.false) (sym c.is_of-in-Some.ensures ∙ c.if-is_of-2.false)
      (c.loop-x.invariant.so_far s a f e h);
}

pub first_owner-returns : goal.first_owner-returns
first_owner-returns t c s a x f e h =
    no_owner s a f c.loop-x.left.now c.in_ok-name-2.name c.in_default.ensures (c.loop-x.invariant.so_far s a f e h) c.in_ok-name-2.ensures
