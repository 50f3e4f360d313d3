-- Rows of calls, part by part.
use Rattle.std.proofs.Common.{◌≡◌, ◌∙◌, ap, sym, subst, refl, ℕ, ◌+◌, ◌<◌, true, false, if◌then◌else◌, Option, Some, List, [], ◌∷◌, ◌++◌, map, take, length, get_or}
use Rattle.std.specs.Prelude.{IfSome}
use Rattle.std.specs.List.{AllZip}
use Rattle.std.proofs.lemmas.List.{map_more, append_assoc}
use Rattle.std.proofs.lemmas.List.Elements.{All-push}
use Rattle.type_terms.specs.declared.reference.MethodRef.{MethodRef}
use Rattle.type_terms.specs.declared.term.Owner.{Owner}
use Rattle.type_terms.specs.declared.term.Owner.TheOpen.{SigType-F, Prim, Class, Value, Inst, Var, MVar, SzArray, Array, ByRef, Pointer, Mod, Pinned}
use Rattle.type_terms.specs.declared.term.Primitive.TheVariants as prim
use Rattle.type_terms.specs.declared.term.SigType.{SigType, out-SigType}
use Rattle.sig_pool.specs.declared.node.Node.{Node}
use Rattle.sig_pool.specs.Pool.{Has, HasAll, Extends}
use Rattle.sig_pool.specs.Replaced.{replaced, terms_at}
use Rattle.sig_pool.specs.Terms.{term_of}
use Rattle.type_hierarchy.specs.declared.stack_type.StackType.{StackType}
use Rattle.type_hierarchy.specs.Hierarchy.{Hierarchy}
use Rattle.type_hierarchy.specs.Meaning.{Means}
use Rattle.type_order.specs.Parts.{type_arguments}
use Rattle.type_hierarchy.specs.Stack.{stack_of}
use Rattle.type_hierarchy.specs.Tables.{hierarchy_in}
use Rattle.type_hierarchy.specs.World.{Content, hierarchy, Stays}
use Rattle.stack_effects.specs.declared.calls.CallParts.{CallParts}
use Rattle.stack_rows.specs.declared.row.Demand.{Demand}
use Rattle.stack_rows.specs.declared.row.Demand.TheVariants.{To}
use Rattle.stack_rows.specs.declared.row.Pushed.{Pushed}
use Rattle.stack_rows.specs.declared.row.Pushed.TheVariants.{Always}
use Rattle.stack_rows.specs.declared.row.Row.{Row}
use Rattle.code_flow.specs.Demands as demands
use Rattle.code_flow.specs.Frames.{owner_in, type_in, types_in, method_arguments, member_type}
use Rattle.code_flow.specs.Rows as rows
use Rattle.code_flow.specs.Rows.{layer_result, result, pushes, demand_of, return_demands, parameter_demand, parameter_demands}
use Rattle.stack_rows.specs.RowMeanings.{type_option, MeansDemand, MeansPushed, MeansRow}
use Rattle.stack_effects.specs.MemberMeanings.{MeansCall, IsCallWithin, MeansResult}
use Rattle.stack_rows.specs.TypeKinds.{is_void, layer_is_void}
use Rattle.stack_rows.proofs.Growing.{extends_long, all_kept, has_kept, demand_within, demand_kept}
use Rattle.stack_rows.proofs.RowParts.{to_means, always_means, option_same}
use Rattle.stack_effects.proofs.Zips.{zip_weaker, zip_end}

-- ---- results

void_layer : (w : Hierarchy) (t : SigType) (x : SigType-F Owner SigType) → layer_is_void x ≡ true → layer_result w t x ≡ []
void_layer w t (Prim prim.Void) e = refl
void_layer w t (Prim prim.Bool) e = absurd (let f : ⊥ = cc in f)
void_layer w t (Prim prim.Char) e = absurd (let f : ⊥ = cc in f)
void_layer w t (Prim prim.I1) e = absurd (let f : ⊥ = cc in f)
void_layer w t (Prim prim.U1) e = absurd (let f : ⊥ = cc in f)
void_layer w t (Prim prim.I2) e = absurd (let f : ⊥ = cc in f)
void_layer w t (Prim prim.U2) e = absurd (let f : ⊥ = cc in f)
void_layer w t (Prim prim.I4) e = absurd (let f : ⊥ = cc in f)
void_layer w t (Prim prim.U4) e = absurd (let f : ⊥ = cc in f)
void_layer w t (Prim prim.I8) e = absurd (let f : ⊥ = cc in f)
void_layer w t (Prim prim.U8) e = absurd (let f : ⊥ = cc in f)
void_layer w t (Prim prim.R4) e = absurd (let f : ⊥ = cc in f)
void_layer w t (Prim prim.R8) e = absurd (let f : ⊥ = cc in f)
void_layer w t (Prim prim.Str) e = absurd (let f : ⊥ = cc in f)
void_layer w t (Prim prim.Object) e = absurd (let f : ⊥ = cc in f)
void_layer w t (Prim prim.TypedRef) e = absurd (let f : ⊥ = cc in f)
void_layer w t (Prim prim.NInt) e = absurd (let f : ⊥ = cc in f)
void_layer w t (Prim prim.NUint) e = absurd (let f : ⊥ = cc in f)
void_layer w t (Class n) e = absurd (let f : ⊥ = cc in f)
void_layer w t (Value n) e = absurd (let f : ⊥ = cc in f)
void_layer w t (Inst v n a) e = absurd (let f : ⊥ = cc in f)
void_layer w t (Var n) e = absurd (let f : ⊥ = cc in f)
void_layer w t (MVar n) e = absurd (let f : ⊥ = cc in f)
void_layer w t (SzArray o) e = absurd (let f : ⊥ = cc in f)
void_layer w t (Array o r s l) e = absurd (let f : ⊥ = cc in f)
void_layer w t (ByRef o) e = absurd (let f : ⊥ = cc in f)
void_layer w t (Pointer o) e = absurd (let f : ⊥ = cc in f)
void_layer w t (Mod r b o) e = absurd (let f : ⊥ = cc in f)
void_layer w t (Pinned o) e = absurd (let f : ⊥ = cc in f)

value_layer : (w : Hierarchy) (t : SigType) (x : SigType-F Owner SigType) → layer_is_void x ≡ false → layer_result w t x ≡ pushes (stack_of w t)
value_layer w t (Prim prim.Void) e = absurd (let f : ⊥ = cc in f)
value_layer w t (Prim prim.Bool) e = refl
value_layer w t (Prim prim.Char) e = refl
value_layer w t (Prim prim.I1) e = refl
value_layer w t (Prim prim.U1) e = refl
value_layer w t (Prim prim.I2) e = refl
value_layer w t (Prim prim.U2) e = refl
value_layer w t (Prim prim.I4) e = refl
value_layer w t (Prim prim.U4) e = refl
value_layer w t (Prim prim.I8) e = refl
value_layer w t (Prim prim.U8) e = refl
value_layer w t (Prim prim.R4) e = refl
value_layer w t (Prim prim.R8) e = refl
value_layer w t (Prim prim.Str) e = refl
value_layer w t (Prim prim.Object) e = refl
value_layer w t (Prim prim.TypedRef) e = refl
value_layer w t (Prim prim.NInt) e = refl
value_layer w t (Prim prim.NUint) e = refl
value_layer w t (Class n) e = refl
value_layer w t (Value n) e = refl
value_layer w t (Inst v n a) e = refl
value_layer w t (Var n) e = refl
value_layer w t (MVar n) e = refl
value_layer w t (SzArray o) e = refl
value_layer w t (Array o r s l) e = refl
value_layer w t (ByRef o) e = refl
value_layer w t (Pointer o) e = refl
value_layer w t (Mod r b o) e = refl
value_layer w t (Pinned o) e = refl

pub result_void : (w : Hierarchy) (t : SigType) → is_void t ≡ true → result w t ≡ []
result_void w t e = void_layer w t (out-SigType t) e

pub result_value : (w : Hierarchy) (t : SigType) → is_void t ≡ false → result w t ≡ pushes (stack_of w t)
result_value w t e = value_layer w t (out-SigType t) e

-- ---- lists

demand_on : (ns ms : List Node) (d : Demand) (o : demands.Demand) → Extends ns ms → MeansDemand ns d o → MeansDemand ms d o
demand_on ns ms d o x h = record { within = demand_within (length ns) (length ms) d (extends_long ns ms x) h.within; is = demand_kept ns ms d x h.within ∙ h.is }

pub zip_kept : (ns ms : List Node) (ds : List Demand) (os : List demands.Demand) → Extends ns ms → AllZip (MeansDemand ns) ds os → AllZip (MeansDemand ms) ds os
zip_kept ns ms ds os x h = zip_weaker (MeansDemand ns) (MeansDemand ms) ds os (λ d o m. demand_on ns ms d o x m) h

keys_pushed : (ns : List Node) (ids : List ℕ) (ts : List SigType) (id : ℕ) (t : SigType) → HasAll ns ids ts → Has ns id t → HasAll ns (ids ++ id ∷ []) (ts ++ t ∷ [])
keys_pushed ns ids ts id t h g = record {
  within = All-push (λ k. k < length ns) ids id h.within g.within;
  terms = map_end ids ∙ (let a = h.terms in let b = g.term in λ i. a i ++ b i ∷ []);
}
  where
    map_end : (xs : List ℕ) → map (term_of ns) (xs ++ id ∷ []) ≡ map (term_of ns) xs ++ term_of ns id ∷ []
    map_end [] = refl
    map_end (x ∷ xs) = ap (λ l. term_of ns x ∷ l) (map_end xs)

-- one more key in the loop
pub keys_more : (a b d : Content) (keys later : List ℕ) (types : List SigType) (i key : ℕ) (t : SigType) → Stays a b → Stays b d → i < length types → t ≡ get_or types i t
    → HasAll b.nodes keys (types_in (hierarchy a) (take i types)) → Has d.nodes key (type_in (hierarchy b) t) → later ≡ keys ++ key ∷ []
    → HasAll d.nodes later (types_in (hierarchy a) (take (i + 1) types))
keys_more a b d keys later types i key t ab bd low is h g e =
    let same : hierarchy b ≡ hierarchy a = ap hierarchy_in ab.tables in
    let one : Has d.nodes key (type_in (hierarchy a) t) = subst (λ (w : Hierarchy). Has d.nodes key (type_in w t)) same g in
    let all = keys_pushed d.nodes keys (types_in (hierarchy a) (take i types)) key (type_in (hierarchy a) t) (all_kept b.nodes d.nodes keys (types_in (hierarchy a) (take i types)) bd.nodes h) one in
    let more : types_in (hierarchy a) (take (i + 1) types) ≡ types_in (hierarchy a) (take i types) ++ type_in (hierarchy a) t ∷ [] =
    map_more (type_in (hierarchy a)) types i t low ∙ ap (λ (x : SigType). types_in (hierarchy a) (take i types) ++ type_in (hierarchy a) x ∷ []) (sym is) in
    subst (HasAll d.nodes later) (sym more) (subst (λ (l : List ℕ). HasAll d.nodes l (types_in (hierarchy a) (take i types) ++ type_in (hierarchy a) t ∷ [])) (sym e) all)

-- ---- members

-- the type of a member, with the arguments of these keys put in
pub member_is : (ns : List Node) (w : Hierarchy) (p : CallParts) (m : MethodRef) (t : SigType) → MeansCall ns p w m
    → replaced (terms_at ns p.class_args) (terms_at ns p.method_args) (type_in w t) ≡ member_type w m.owner m.args t
member_is ns w p m t h = let a = h.class_args.terms in let b = h.method_args.terms in λ i. replaced (a i) (b i) (type_in w t)

pub call_kept : (ns ms : List Node) (p : CallParts) (w : Hierarchy) (m : MethodRef) → Extends ns ms → MeansCall ns p w m → MeansCall ms p w m
call_kept ns ms p w m x h = record {
  owner = has_kept ns ms p.owner _ x h.owner;
  class_args = all_kept ns ms p.class_args _ x h.class_args;
  method_args = all_kept ns ms p.method_args _ x h.method_args;
}

pub call_within : (ns : List Node) (p : CallParts) (w : Hierarchy) (m : MethodRef) → MeansCall ns p w m → IsCallWithin (length ns) p
call_within ns p w m h = record { owner = h.owner.within; class_args = h.class_args.within; method_args = h.method_args.within }

-- from `a` the world goes on to `b` with the owner's key, and to `c` with those of the method's arguments
pub call_made : (a b c : Content) (p : CallParts) (m : MethodRef) → Stays a b → Stays b c → Has b.nodes p.owner (owner_in (hierarchy a) m.owner)
    → HasAll b.nodes p.class_args (type_arguments (term_of b.nodes p.owner)) → HasAll c.nodes p.method_args (method_arguments (hierarchy b) m.args) → MeansCall c.nodes p (hierarchy a) m
call_made a b c p m ab bc owner class method =
    let same : hierarchy b ≡ hierarchy a = ap hierarchy_in ab.tables in
    let of = owner.term in
    record {
      owner = has_kept b.nodes c.nodes p.owner _ bc.nodes owner;
      class_args = all_kept b.nodes c.nodes p.class_args _ bc.nodes (record { within = class.within; terms = class.terms ∙ ap type_arguments of });
      method_args = record { within = method.within; terms = method.terms ∙ ap (λ (w : Hierarchy). method_arguments w m.args) same };
    }

-- ---- results of calls

-- the value that is returned means what a call pushes
pub result_is : (ns : List Node) (w v : Hierarchy) (t u : SigType) (s : Option StackType) → v ≡ w → u ≡ t → MeansResult ns s (result v u) → MeansResult ns s (result w t)
result_is ns w v t u s e f h = let P : List rows.Pushed → Type 0 = λ (ps : List rows.Pushed). MeansResult ns s ps in subst P (λ i. result (e i) (f i)) h

pub value_returned : (ns : List Node) (w : Hierarchy) (t : SigType) (s : StackType) → is_void t ≡ false → Means ns s (stack_of w t) → MeansResult ns (Some s) (result w t)
value_returned ns w t s e h = (stack_of w t, result_value w t e, h)

pub pushes_value : (ns : List Node) (s : StackType) (ps : List rows.Pushed) → MeansResult ns (Some s) ps → AllZip (MeansPushed ns) (Always s ∷ []) ps
pushes_value ns s ps (x, is, means) = subst (AllZip (MeansPushed ns) (Always s ∷ [])) (sym is) (always_means ns s x means, tt)

pub asks_value : (ns : List Node) (w : Hierarchy) (t : SigType) (s : StackType) → MeansResult ns (Some s) (result w t) → AllZip (MeansDemand ns) (To s ∷ []) (return_demands w t)
asks_value ns w t s (x, is, means) = subst (λ (ps : List rows.Pushed). AllZip (MeansDemand ns) (To s ∷ []) (map demand_of ps)) (sym is) (to_means ns s x means, tt)

pub asks_nothing : (ns : List Node) (w : Hierarchy) (t : SigType) → result w t ≡ [] → AllZip (MeansDemand ns) [] (return_demands w t)
asks_nothing ns w t is = subst (λ (ps : List rows.Pushed). AllZip (MeansDemand ns) [] (map demand_of ps)) (sym is) tt

-- one more parameter in the loop: from `b` the world goes on to `c` with the type's key, and to `d` with its value
pub parameter_more : (a b c d : Content) (p : CallParts) (ds later : List Demand) (params : List SigType) (i key : ℕ) (t : SigType) (value : StackType) (m : MethodRef) (os : List demands.Demand)
    → Stays a b → Stays b c → Stays c d → i < length params → t ≡ get_or params i t
    → MeansCall a.nodes p (hierarchy a) m
    → AllZip (MeansDemand b.nodes) ds (os ++ map (parameter_demand (hierarchy a) m) (take i params))
    → Has c.nodes key (replaced (terms_at b.nodes p.class_args) (terms_at b.nodes p.method_args) (type_in (hierarchy b) t))
    → Means d.nodes value (stack_of (hierarchy c) (term_of c.nodes key)) → later ≡ ds ++ To value ∷ []
    → AllZip (MeansDemand d.nodes) later (os ++ map (parameter_demand (hierarchy a) m) (take (i + 1) params))
parameter_more a b c d p ds later params i key t value m os ab bc cd low is call zip has means e =
    let hb : hierarchy b ≡ hierarchy a = ap hierarchy_in ab.tables in
    let hc : hierarchy c ≡ hierarchy a = ap hierarchy_in (bc.tables ∙ ab.tables) in
    let cb = call_kept a.nodes b.nodes p (hierarchy a) m ab.nodes call in
    let type : term_of c.nodes key ≡ member_type (hierarchy a) m.owner m.args t =
    has.term ∙ ap (λ (w : Hierarchy). replaced (terms_at b.nodes p.class_args) (terms_at b.nodes p.method_args) (type_in w t)) hb ∙ member_is b.nodes (hierarchy a) p m t cb in
    let one : MeansDemand d.nodes (To value) (parameter_demand (hierarchy a) m t) =
    to_means d.nodes value (stack_of (hierarchy a) (member_type (hierarchy a) m.owner m.args t)) (record { within = means.within; is = means.is ∙ (λ j. stack_of (hc j) (type j)) }) in
    let front : List demands.Demand = os ++ map (parameter_demand (hierarchy a) m) (take i params) in
    let grown = zip_end (MeansDemand d.nodes) ds front (To value) (parameter_demand (hierarchy a) m t) (zip_kept c.nodes d.nodes ds front cd.nodes (zip_kept b.nodes c.nodes ds front bc.nodes zip)) one in
    let more : os ++ map (parameter_demand (hierarchy a) m) (take (i + 1) params) ≡ front ++ parameter_demand (hierarchy a) m t ∷ [] =
    ap (λ (l : List demands.Demand). os ++ l) (map_more (parameter_demand (hierarchy a) m) params i t low)
    ∙ ap (λ (x : SigType). os ++ (map (parameter_demand (hierarchy a) m) (take i params) ++ parameter_demand (hierarchy a) m x ∷ [])) (sym is)
    ∙ sym (append_assoc os (map (parameter_demand (hierarchy a) m) (take i params)) (parameter_demand (hierarchy a) m t ∷ [])) in
    subst (AllZip (MeansDemand d.nodes) later) (sym more) (subst (λ (l : List Demand). AllZip (MeansDemand d.nodes) l (front ++ parameter_demand (hierarchy a) m t ∷ [])) (sym e) grown)

-- ---- whole rows

-- the world goes on from `a` to `b` with the owner and the arguments, to `c` with the object, to `d` with the parameters, and to `e` with the result
pub call_row_means : (a b c d e : Content) (p : CallParts) (m : MethodRef) (k : Option ℕ) (this all : List Demand) (ps : List Pushed) (r : Row) → Stays a b → Stays b c → Stays c d → Stays d e
    → IfSome k (λ j. j < length a.nodes) → MeansCall b.nodes p (hierarchy a) m
    → AllZip (MeansDemand c.nodes) this (if m.sig.has_this then rows.object_demand (hierarchy b) (type_option b.nodes k) (term_of b.nodes p.owner) ∷ [] else [])
    → ((os : List demands.Demand) → MeansCall c.nodes p (hierarchy c) m → AllZip (MeansDemand c.nodes) this os → AllZip (MeansDemand d.nodes) all (os ++ map (parameter_demand (hierarchy c) m) m.sig.params))
    → (MeansCall d.nodes p (hierarchy d) m → AllZip (MeansPushed e.nodes) ps (result (hierarchy d) (member_type (hierarchy d) m.owner m.args m.sig.ret)))
    → ((os : List demands.Demand) (qs : List rows.Pushed) → AllZip (MeansDemand e.nodes) all os → AllZip (MeansPushed e.nodes) ps qs → MeansRow e.nodes r (rows.row os qs))
    → MeansRow e.nodes r (rows.call_row (hierarchy a) (type_option a.nodes k) m)
call_row_means a b c d e p m k this all ps r ab bc cd de low call object operands pushed row =
    let w = hierarchy a in
    let hb : hierarchy b ≡ w = ap hierarchy_in ab.tables in
    let hc : hierarchy c ≡ w = ap hierarchy_in (bc.tables ∙ ab.tables) in
    let hd : hierarchy d ≡ w = ap hierarchy_in (cd.tables ∙ bc.tables ∙ ab.tables) in
    let eo = option_same a b k ab low in
    let et = call.owner.term in
    let os : List demands.Demand = rows.this_demands w (type_option a.nodes k) m in
    let is_this : AllZip (MeansDemand c.nodes) this os =
    subst (AllZip (MeansDemand c.nodes) this) (λ i. if m.sig.has_this then rows.object_demand (hb i) (eo i) (et i) ∷ [] else []) object in
    let kept = call_kept b.nodes c.nodes p w m bc.nodes call in
    let at_c : MeansCall c.nodes p (hierarchy c) m = subst (λ (v : Hierarchy). MeansCall c.nodes p v m) (sym hc) kept in
    let at_d : MeansCall d.nodes p (hierarchy d) m = subst (λ (v : Hierarchy). MeansCall d.nodes p v m) (sym hd) (call_kept c.nodes d.nodes p w m cd.nodes kept) in
    let asked = subst (λ (v : Hierarchy). AllZip (MeansDemand d.nodes) all (os ++ map (parameter_demand v m) m.sig.params)) hc (operands os at_c is_this) in
    let given = subst (λ (v : Hierarchy). AllZip (MeansPushed e.nodes) ps (result v (member_type v m.owner m.args m.sig.ret))) hd (pushed at_d) in
    row (os ++ parameter_demands w m) (result w (member_type w m.owner m.args m.sig.ret)) (zip_kept d.nodes e.nodes all (os ++ parameter_demands w m) de.nodes asked) given

-- from `a` to `b` with the owner and the arguments, to `c` with the parameters, and to `d` with the object
pub new_row_means : (a b c d : Content) (p : CallParts) (m : MethodRef) (all : List Demand) (value : StackType) (ps : List Pushed) (r : Row) → Stays a b → Stays b c → Stays c d
    → MeansCall b.nodes p (hierarchy a) m
    → (MeansCall b.nodes p (hierarchy b) m → AllZip (MeansDemand c.nodes) all (map (parameter_demand (hierarchy b) m) m.sig.params))
    → Means d.nodes value (stack_of (hierarchy c) (term_of c.nodes p.owner)) → ps ≡ Always value ∷ []
    → ((os : List demands.Demand) (qs : List rows.Pushed) → AllZip (MeansDemand d.nodes) all os → AllZip (MeansPushed d.nodes) ps qs → MeansRow d.nodes r (rows.row os qs))
    → MeansRow d.nodes r (rows.new_row (hierarchy a) m)
new_row_means a b c d p m all value ps r ab bc cd call operands means e row =
    let w = hierarchy a in
    let hb : hierarchy b ≡ w = ap hierarchy_in ab.tables in
    let hc : hierarchy c ≡ w = ap hierarchy_in (bc.tables ∙ ab.tables) in
    let at_b : MeansCall b.nodes p (hierarchy b) m = subst (λ (v : Hierarchy). MeansCall b.nodes p v m) (sym hb) call in
    let of : term_of c.nodes p.owner ≡ owner_in w m.owner = (has_kept b.nodes c.nodes p.owner _ bc.nodes call.owner).term in
    let asked = subst (λ (v : Hierarchy). AllZip (MeansDemand c.nodes) all (map (parameter_demand v m) m.sig.params)) hb (operands at_b) in
    let one : Means d.nodes value (stack_of w (owner_in w m.owner)) = record { within = means.within; is = means.is ∙ (λ i. stack_of (hc i) (of i)) } in
    let given = subst (λ (qs : List Pushed). AllZip (MeansPushed d.nodes) qs (pushes (stack_of w (owner_in w m.owner)))) (sym e) (always_means d.nodes value (stack_of w (owner_in w m.owner)) one, tt) in
    row (parameter_demands w m) (pushes (stack_of w (owner_in w m.owner))) (zip_kept c.nodes d.nodes all (parameter_demands w m) cd.nodes asked) given
