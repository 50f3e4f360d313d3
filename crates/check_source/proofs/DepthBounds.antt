-- A type is at most one deeper than the number of nodes below its production: where none has more than 98, none is too deep.
use Rattle.std.proofs.Common.{◌≡◌, ℕ, suc, ◌+◌, ◌≤◌, List, [], ◌∷◌, ◌++◌, length, map, refl, ap, sym, ◌∙◌, arith, length-append}
use Rattle.std.proofs.lemmas.Bool.{ltb-true}
use Rattle.std.proofs.lemmas.Grind.{flat_map-append}
use Rattle.std.specs.Prelude.{Bool, true, false, ◌==◌, ◌&&◌, ◌||◌, None, nat_lt, if◌then◌else◌}
use Rattle.std.specs.List.{flat_map, list_any}
use Rattle.type_terms.specs.Depth.{depth, depth_step, largest, owner_depth, owner_depth_step}
use Rattle.type_terms.specs.declared.term.Owner.{Owner, Name, Spec}
use Rattle.type_terms.specs.declared.term.Primitive.TheVariants as prim
use Rattle.type_terms.specs.declared.term.SigType.{SigType, Prim}
use Rattle.type_terms.proofs.Layers.{fold-Name, fold-Prim, fold-Spec}
use Rattle.ilasm_grammar.specs.declared.productions.TheConstants.{SPEC_TYPE, SPEC_TYPE_NAME, TYPE, TYPE_BASE_CLASS, TYPE_BASE_VALUETYPE}
use Rattle.ilasm_grammar.specs.declared.tree.TreeNode.{TreeNode}
use Rattle.source_model.specs.Forest as tree
use Rattle.source_model.specs.Forest.{Forest, first_token, is_among, preorder}
use Rattle.source_model.specs.Names.{module_name, type_name}
use Rattle.source_model.specs.Nodes.{Around, Node, entered, nodes, nodes_in, nothing_around}
use Rattle.source_model.specs.OutOfRange.{types_too_deep}
use Rattle.source_model.specs.Source.{Source}
use Rattle.source_model.specs.TypeRules.{type_too_deep}
use Rattle.source_model.specs.Types.{base_type, first_owner, owners_in, suffix, suffixed, suffixes, type_of, types_in}
use Rattle.source_nodes.specs.Least.{least}
use Rattle.check_names.specs.TypeDepths.{is_modifier}
use Rattle.check_names.proofs.DepthLemmas.{base_is, suffix_is}
use Rattle.check_source.specs.Census.{is_long}

-- ---- the deepest of some

deepest_append : {X : Type 0} (h : X → ℕ) (xs ys : List X) (n : ℕ) → largest (map h xs) ≤ n → largest (map h ys) ≤ n → largest (map h (xs ++ ys)) ≤ n
deepest_append h [] ys n x y = y
deepest_append h (a ∷ xs) ys n x y =
    let here : h a ≤ n = omega (arith, x) in
    let later : largest (map h xs) ≤ n = omega (arith, x) in
    let rest = deepest_append h xs ys n later y in
    omega (arith, here, rest)

deepest_one : (c : Bool) (t : SigType) (ts : List SigType) (n : ℕ) → depth t ≤ n → largest (map depth ts) ≤ n → largest (map depth (if c then t ∷ [] else ts)) ≤ n
deepest_one true t ts n x y = omega (arith, x)
deepest_one false t ts n x y = y

specs_are : (ts : List SigType) (n : ℕ) → largest (map depth ts) ≤ n → largest (map owner_depth (map Spec ts)) ≤ n
specs_are [] n x = x
specs_are (t ∷ ts) n x =
    let here : depth t ≤ n = omega (arith, x) in
    let later : largest (map depth ts) ≤ n = omega (arith, x) in
    let rest = specs_are ts n later in
    let same : owner_depth (Spec t) ≡ depth t = fold-Spec ℕ ℕ owner_depth_step depth_step t in
    omega (arith, here, rest, same)

first_deep : (os : List Owner) (n : ℕ) → largest (map owner_depth os) ≤ n → owner_depth (first_owner os) ≤ n
first_deep [] n x = let none : owner_depth (Name module_name) ≡ 0 = fold-Name ℕ ℕ owner_depth_step depth_step module_name in omega (arith, none)
first_deep (o ∷ os) n x = omega (arith, x)

by_deep : (c : Bool) (os : List Owner) (n : ℕ) → largest (map owner_depth os) ≤ n → (if c then owner_depth (first_owner os) else 0) ≤ n
by_deep true os n x = first_deep os n x
by_deep false os n x = omega arith

base_deep : (c : Bool) (d n : ℕ) → d ≤ n → (if c then d + 1 else 1) ≤ n + 1
base_deep true d n x = omega (arith, x)
base_deep false d n x = omega arith

one_of : (c : Bool) (t u : SigType) (n : ℕ) → depth t ≤ n → depth u ≤ n → depth (if c then t else u) ≤ n
one_of true t u n x y = x
one_of false t u n x y = y

own_deep : (c d : Bool) (name : Owner) (ts : List SigType) (os : List Owner) (n : ℕ) → owner_depth name ≡ 0 → largest (map depth ts) ≤ n → largest (map owner_depth os) ≤ n
    → largest (map owner_depth (if c then name ∷ [] else if d then map Spec ts else os)) ≤ n
own_deep true d name ts os n x y z = omega (arith, x)
own_deep false true name ts os n x y z = specs_are ts n y
own_deep false false name ts os n x y z = z

-- ---- types and owners in a forest

record Bound (s : Source) (a : Around) (f : Forest) : Type 0 where
  types : largest (map depth (types_in s a f)) ≤ length (preorder f)
  owners : largest (map owner_depth (owners_in s a f)) ≤ length (preorder f)
  whole : depth (type_of s a f) ≤ length (preorder f) + 1
  more : (t : SigType) → depth (suffixed s a f t) ≤ depth t + length (preorder f)

bound : (s : Source) (a : Around) (f : Forest) → Bound s a f
unfolding types_in type_of suffixed owners_in
bound s a tree.none =
    let void : depth (Prim prim.Void) ≡ 1 = fold-Prim ℕ ℕ owner_depth_step depth_step prim.Void in
    record {
      types = omega arith;
      owners = omega arith;
      whole = omega (arith, void);
      more = λ t. omega arith;
    }
bound s a (tree.leaf k after) =
    let r = bound s a after in
    let void : depth (Prim prim.Void) ≡ 1 = fold-Prim ℕ ℕ owner_depth_step depth_step prim.Void in
    record {
      types = omega (arith, r.types);
      owners = omega (arith, r.owners);
      whole = omega (arith, void);
      more = λ t. let deeper = r.more t in omega (arith, deeper);
    }
bound s a (tree.branch p b after) =
    let r = bound s a after in
    let i = bound s a b in
    let n : ℕ = suc (length (preorder b ++ preorder after)) in
    let size : n ≡ length (preorder b) + length (preorder after) + 1 =
    (let both = length-append (preorder b) (preorder after) in omega (arith, both)) in
    let name : owner_depth (Name (type_name s b)) ≡ 0 = fold-Name ℕ ℕ owner_depth_step depth_step (type_name s b) in
    let base = base_type s a p b (types_in s a b) in
    let based : depth base ≤ length (preorder b) + 1 =
    (let is = base_is s a p b (types_in s a b) in
    let small = base_deep (p == TYPE_BASE_CLASS || p == TYPE_BASE_VALUETYPE) (largest (map depth (types_in s a b))) (length (preorder b)) i.types in
    omega (arith, is, small)) in
    record {
      types = deepest_append depth (if p == TYPE then type_of s a b ∷ [] else types_in s a b) (types_in s a after) n
          (deepest_one (p == TYPE) (type_of s a b) (types_in s a b) n (omega (arith, i.whole, size)) (omega (arith, i.types, size)))
          (omega (arith, r.types, size));
      owners = deepest_append owner_depth (if p == SPEC_TYPE_NAME then Name (type_name s b) ∷ [] else if p == SPEC_TYPE then map Spec (types_in s a b) else owners_in s a b)
          (owners_in s a after) n
          (own_deep (p == SPEC_TYPE_NAME) (p == SPEC_TYPE) (Name (type_name s b)) (types_in s a b) (owners_in s a b) n name
          (omega (arith, i.types, size)) (omega (arith, i.owners, size)))
          (omega (arith, r.owners, size));
      whole = let deeper = r.more base in omega (arith, deeper, based, size);
      more = λ t.
          let by = owners_in s a b in
          let is = suffix_is s p b by t in
          let small = by_deep (is_modifier p) by (length (preorder b)) i.owners in
          let around : depth (suffix s p b by t) ≤ depth t + length (preorder b) + 1 = omega (arith, is, small) in
          let inner = i.more t in
          let here = one_of (is_among suffixes p) (suffix s p b by t) (suffixed s a b t) (depth t + length (preorder b) + 1) around (omega (arith, inner)) in
          let deeper = r.more (if is_among suffixes p then suffix s p b by t else suffixed s a b t) in
          omega (arith, deeper, here, size);
    }

-- ---- all types of a source

neither : (a b : Bool) → (a || b) ≡ false → (a ≡ false) × (b ≡ false)
neither false b e = (refl, e)
neither true b e = absurd cc

none_before : (xs ys : List TreeNode) → list_any is_long (xs ++ ys) ≡ false → (list_any is_long xs ≡ false) × (list_any is_long ys ≡ false)
none_before [] ys e = (refl, e)
none_before (x ∷ xs) ys e =
    let here = neither (is_long x) (list_any is_long (xs ++ ys)) e in
    let rest = none_before xs ys here.1 in
    (ap (λ c. c || list_any is_long xs) here.0 ∙ rest.0, rest.1)

not_less : (m n : ℕ) → n ≤ m → nat_lt m n ≡ false
not_less m n few = go (nat_lt m n) refl
  where
    go : (c : Bool) → nat_lt m n ≡ c → c ≡ false
    go false e = refl
    go true e = let less = ltb-true m n e in absurd (omega (arith, less, few))

at_most : (m n : ℕ) → nat_lt m n ≡ false → n ≤ m
at_most m n e = grind arith

shallow : (c : Bool) (size d token : ℕ) → (c && nat_lt 98 size) ≡ false → d ≤ size + 1 → (if c && nat_lt 100 d then token ∷ [] else []) ≡ []
shallow false size d token e small = refl
shallow true size d token e small =
    let short = at_most 98 size e in
    ap (λ (c : Bool). if c then token ∷ [] else []) (not_less 100 d (omega (arith, short, small)))

none_deep : (s : Source) (a : Around) (f : Forest) → list_any is_long (preorder f) ≡ false → flat_map (type_too_deep s) (nodes_in s a f) ≡ []
none_deep s a tree.none e = refl
none_deep s a (tree.leaf k after) e = none_deep s a after e
none_deep s a (tree.branch p b after) e =
    let inner = entered s a p b in
    let n : Node = record { production = p; below = b; around = inner } in
    let here = neither (p == TYPE && nat_lt 98 (length (preorder b))) (list_any is_long (preorder b ++ preorder after)) e in
    let both = none_before (preorder b) (preorder after) here.1 in
    let own = shallow (p == TYPE) (length (preorder b)) (depth (type_of s inner b)) (first_token b) here.0 (bound s inner b).whole in
    flat_map-append (type_too_deep s) (n ∷ nodes_in s inner b) (nodes_in s a after)
    ∙ ap (λ xs. (xs ++ flat_map (type_too_deep s) (nodes_in s inner b)) ++ flat_map (type_too_deep s) (nodes_in s a after)) own
    ∙ ap (λ xs. xs ++ flat_map (type_too_deep s) (nodes_in s a after)) (none_deep s inner b both.0)
    ∙ none_deep s a after both.1

pub no_deep_type : (s : Source) → list_any is_long (preorder s.tree) ≡ false → None ≡ least (types_too_deep s)
unfolding nodes
no_deep_type s e = ap least (sym (none_deep s nothing_around s.tree e))
