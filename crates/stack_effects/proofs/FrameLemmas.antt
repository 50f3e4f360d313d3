-- The types that a method's body is checked against, part by part.
use Rattle.std.proofs.Common.{◌≡◌, ◌∙◌, ap, sym, subst, refl, ℕ, zero, suc, ◌+◌, ◌<◌, arith, true, false, if◌then◌else◌, List, [], ◌∷◌, ◌++◌, length, add-one}
use Rattle.std.proofs.lemmas.List.{map-append}
use Rattle.std.proofs.lemmas.List.Elements.{All-append}
use Rattle.type_terms.specs.declared.name.Scope.TheVariants.{Here}
use Rattle.type_terms.specs.declared.name.TypeId.{TypeId}
use Rattle.type_terms.specs.declared.term.SigType.{SigType}
use Rattle.type_terms.specs.declared.term.SigType.TheVariants as type
use Rattle.type_terms.proofs.Layers.{fold-ByRef}
use Rattle.assembly_tree.specs.declared.assembly.Assembly.{Assembly}
use Rattle.assembly_tree.specs.declared.body.Body.{Body}
use Rattle.assembly_tree.specs.declared.members.Method.{Method}
use Rattle.sig_pool.specs.declared.node.Node.{Node}
use Rattle.sig_pool.specs.Pool.{Has, HasAll}
use Rattle.sig_pool.specs.Terms.{term_of}
use Rattle.type_hierarchy.specs.Normal.{Reading, normal, normal_step, normal_owner_step}
use Rattle.type_hierarchy.specs.Stack.{is_reference}
use Rattle.type_hierarchy.specs.Tables.{hierarchy_in}
use Rattle.type_hierarchy.specs.World.{Content, hierarchy, Stays}
use Rattle.stack_rows.specs.declared.frame.CodeFrame.{CodeFrame}
use Rattle.type_order.specs.OwnTypes.{variables, own_class}
use Rattle.code_flow.specs.Frames.{type_in, types_in, as_this, this_argument, frame}
use Rattle.code_flow.specs.Methods.{Declared}
use Rattle.stack_rows.specs.RowMeanings.{MeansFrame, IsFrameWithin}
use Rattle.stack_rows.proofs.Growing.{all_kept}

-- ---- argument 0

pointer_normal : (r : Reading) (t : SigType) → normal r (type.ByRef t) ≡ type.ByRef (normal r t)
unfolding normal
pointer_normal r t = fold-ByRef SigType SigType (normal_owner_step r) (normal_step r) t

pub this_object : (a : Content) (ns : List Node) (k : ℕ) (own : SigType) → Has ns k (type_in (hierarchy a) own) → is_reference (term_of ns k) ≡ true → Has ns k (as_this (type_in (hierarchy a) own))
this_object a ns k own h is =
    let same : as_this (type_in (hierarchy a) own) ≡ type_in (hierarchy a) own =
    ap (λ b. if b then type_in (hierarchy a) own else type.ByRef (type_in (hierarchy a) own)) (ap is_reference (sym h.term) ∙ is) in
    record { within = h.within; term = h.term ∙ sym same }

pub this_pointer : (a : Content) (ns : List Node) (k j : ℕ) (own : SigType) → Has ns k (type_in (hierarchy a) own) → is_reference (term_of ns k) ≡ false → Has ns j (type_in (hierarchy a) (type.ByRef own))
    → Has ns j (as_this (type_in (hierarchy a) own))
this_pointer a ns k j own h is g =
    let w = hierarchy a in
    let same : as_this (type_in w own) ≡ type.ByRef (type_in w own) =
    ap (λ c. if c then type_in w own else type.ByRef (type_in w own)) (ap is_reference (sym h.term) ∙ is) in
    record { within = g.within; term = g.term ∙ pointer_normal _ own ∙ sym same }

-- ---- arguments

pub all_both : (ns : List Node) (xs ys : List ℕ) (ts us : List SigType) → HasAll ns xs ts → HasAll ns ys us → HasAll ns (xs ++ ys) (ts ++ us)
all_both ns xs ys ts us h g = record {
  within = All-append (λ k. k < length ns) xs ys h.within g.within;
  terms = map-append (term_of ns) xs ys ∙ (let a = h.terms in let b = g.terms in λ i. a i ++ b i);
}

-- from `a` the world goes on to `b` with the object, and to `c` with the parameters
pub arguments_are : (a b c : Content) (d : Declared) (path : List TypeId) (n : ℕ) (method : Method) (this params all : List ℕ) (ts : List SigType) → Stays a b → Stays b c
    → HasAll b.nodes this (if method.sig.has_this then as_this (type_in (hierarchy a) (own_class path n)) ∷ [] else []) → HasAll c.nodes params (types_in (hierarchy b) ts)
    → ts ≡ method.sig.params → all ≡ this ++ params → d.path ≡ path → d.parameters ≡ n → d.method ≡ method
    → HasAll c.nodes all (this_argument (hierarchy a) d ++ types_in (hierarchy a) d.method.sig.params)
arguments_are a b c d path n method this params all ts ab bc object rest of e ep en em =
    let w = hierarchy a in
    let hb : hierarchy b ≡ w = ap hierarchy_in ab.tables in
    let first : HasAll b.nodes this (this_argument w d) =
    subst (HasAll b.nodes this) (λ i. if (sym em i).sig.has_this then as_this (type_in w (own_class (sym ep i) (sym en i))) ∷ [] else []) object in
    let from : ts ≡ d.method.sig.params = of ∙ ap (λ (m : Method). m.sig.params) (sym em) in
    let second : HasAll c.nodes params (types_in w d.method.sig.params) = subst (HasAll c.nodes params) (λ i. types_in (hb i) (from i)) rest in
    subst (λ (l : List ℕ). HasAll c.nodes l (this_argument w d ++ types_in w d.method.sig.params)) (sym e)
    (all_both c.nodes this params (this_argument w d) (types_in w d.method.sig.params) (all_kept b.nodes c.nodes this _ bc.nodes first) second)

-- ---- whole frames

-- from `a` the world goes on to `b` with the arguments, to `c` with the locals, and to `e` with the result
pub frame_made : (a b c e : Content) (v : CodeFrame) (image : Assembly) (d : Declared) (method : Method) (body : Body) (ts : List SigType) → Stays a b → Stays b c → Stays c e
    → HasAll b.nodes v.arguments (this_argument (hierarchy a) d ++ types_in (hierarchy a) d.method.sig.params) → HasAll c.nodes v.locals (types_in (hierarchy b) ts)
    → Has e.nodes v.returns (type_in (hierarchy c) method.sig.ret) → ts ≡ body.locals → d.method ≡ method → MeansFrame e.nodes v (frame image (hierarchy a) d body)
unfolding frame
frame_made a b c e v image d method body ts ab bc ce arguments locals returns of em =
    let w = hierarchy a in
    let hb : hierarchy b ≡ w = ap hierarchy_in ab.tables in
    let hc : hierarchy c ≡ w = ap hierarchy_in (bc.tables ∙ ab.tables) in
    record {
      arguments = all_kept c.nodes e.nodes v.arguments _ ce.nodes (all_kept b.nodes c.nodes v.arguments _ bc.nodes arguments);
      locals = all_kept c.nodes e.nodes v.locals _ ce.nodes (subst (HasAll c.nodes v.locals) (λ i. types_in (hb i) (of i)) locals);
      returns = subst (Has e.nodes v.returns) (λ i. type_in (hc i) (sym em i).sig.ret) returns;
    }

pub frame_within : (b c e : Content) (v : CodeFrame) (xs ys : List SigType) (t : SigType) → Stays b c → Stays c e → HasAll b.nodes v.arguments xs → HasAll c.nodes v.locals ys
    → Has e.nodes v.returns t → IsFrameWithin (length e.nodes) v
frame_within b c e v xs ys t bc ce arguments locals returns = record {
  arguments = (all_kept c.nodes e.nodes v.arguments xs ce.nodes (all_kept b.nodes c.nodes v.arguments xs bc.nodes arguments)).within;
  locals = (all_kept c.nodes e.nodes v.locals ys ce.nodes locals).within;
  returns = returns.within;
}
