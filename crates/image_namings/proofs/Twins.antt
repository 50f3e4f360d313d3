-- What bytes spell hangs on what their tokens name and on nothing else: beside a type that is read stands its twin, which is
-- read where each token is a plain name, and tells which tokens there are.
use Rattle.std.proofs.Common.{◌≡◌, ℕ, ◌<◌, ◌≤◌, ℤ, List, [], ◌∷◌, ◌++◌, map, length, Contains, Option, refl, sym, ◌∙◌, ap, subst, arith}
use Rattle.std.proofs.lemmas.List.Elements.{Contains-append_left, Contains-append_right}
use Rattle.std.specs.List.{flat_map}
use Rattle.sig_codec.specs.Spelling.{Layer, reading, SpellsOwner, SpellsName, SpellsCounted, SpellsShape, SpellsType, SpellsLayer, SpellsEach}
use Rattle.sig_codec.specs.Spelling as spelling
use Rattle.sig_codec.proofs.Layers.{depth-roll, nodes-roll, depth-out, nodes-out, layer_depth, layer_nodes}
use Rattle.type_terms.specs.declared.name.Scope.TheVariants.{Extern}
use Rattle.type_terms.specs.declared.name.TypeName.{TypeName}
use Rattle.type_terms.specs.declared.term.Owner.{Owner}
use Rattle.type_terms.specs.declared.term.Owner.TheVariants as owner
use Rattle.type_terms.specs.declared.term.Owner.TheOpen as layer
use Rattle.type_terms.specs.declared.term.Owner.{fold-Owner}
use Rattle.type_terms.specs.declared.term.SigType.{SigType, fold-roll-SigType, map-SigType, out-SigType, roll-SigType, out-roll-SigType}
use Rattle.type_terms.specs.Depth.{depth, owner_depth, owner_depth_step, depth_step, largest}
use Rattle.type_terms.specs.Nodes.{nodes, owner_nodes, owner_nodes_step, nodes_step, total}
use Rattle.type_terms.proofs.Layers.{fold-Name}
use Rattle.image_model.specs.Tokens.{marked, mark_of, owner_marks, type_marks, type_tokens}

-- the plain name of a token
abbrev pub mark : ℕ → TypeName
mark token = record { scope = Extern token; path = record { space = []; name = [] } ∷ [] }

abbrev owner_tokens : Owner → List ℕ
owner_tokens o = fold-Owner (List ℕ) (List ℕ) owner_marks type_marks o

abbrev layer_tokens : Layer → List ℕ
layer_tokens l = type_marks (map-SigType Owner SigType (List ℕ) (List ℕ) owner_tokens type_tokens l)

tokens-roll : (l : Layer) → type_tokens (roll-SigType l) ≡ layer_tokens l
tokens-roll l = fold-roll-SigType (List ℕ) (List ℕ) owner_marks type_marks l

mark-depth : (n : TypeName) → owner_depth (owner.Name n) ≡ 0
mark-depth n = fold-Name ℕ ℕ owner_depth_step depth_step n

mark-nodes : (n : TypeName) → owner_nodes (owner.Name n) ≡ 0
mark-nodes n = fold-Name ℕ ℕ owner_nodes_step nodes_step n

mark-tokens : (n : TypeName) → owner_tokens (owner.Name n) ≡ mark_of n
mark-tokens n = fold-Name (List ℕ) (List ℕ) owner_marks type_marks n

-- a token is the first of a list
first : (x : ℕ) (xs : List ℕ) → Contains (x ∷ xs) x
first x xs = (0, omega arith, refl)

module _ (a b : ℕ → Option Owner) where
  -- two maps tell the same of these tokens
  abbrev pub Agree : List ℕ → Type 0
  Agree tokens = (token : ℕ) → Contains tokens token → a token ≡ b token

  left : (xs ys : List ℕ) → Agree (xs ++ ys) → Agree xs
  left xs ys f token c = f token (Contains-append_left xs ys token c)

  right : (xs ys : List ℕ) → Agree (xs ++ ys) → Agree ys
  right xs ys f token c = f token (Contains-append_right xs ys token c)

  owner_twin : {o : Owner} {bytes : List ℕ} (h : SpellsOwner (reading a) o bytes) → SpellsOwner (reading marked) (owner.Name (mark h.token)) bytes
  owner_twin h = record { token = h.token; coded = h.coded; number = h.number; decoded = h.decoded; named = refl }

  owner_again : {o : Owner} {bytes : List ℕ} (h : SpellsOwner (reading a) o bytes) → Agree (h.token ∷ []) → SpellsOwner (reading b) o bytes
  owner_again h f = record { token = h.token; coded = h.coded; number = h.number; decoded = h.decoded; named = sym (f h.token (first h.token [])) ∙ h.named }

  name_twin : {n : TypeName} {bytes : List ℕ} (h : SpellsName (reading a) n bytes) → SpellsName (reading marked) (mark h.owner.token) bytes
  unfolding owner_twin
  name_twin h = record { owner = owner_twin h.owner; declared = h.declared }

  name_again : {n : TypeName} {bytes : List ℕ} (h : SpellsName (reading a) n bytes) → Agree (h.owner.token ∷ []) → SpellsName (reading b) n bytes
  unfolding owner_again
  name_again h f = record { owner = owner_again h.owner f; declared = h.declared }

  counted_as : {X : Type 0} (c d : ℕ → Option Owner) (spelled : List ℕ → X → Type 0) (xs : List X) (bytes : List ℕ) → SpellsCounted (reading c) spelled xs bytes → SpellsCounted (reading d) spelled xs bytes
  counted_as c d spelled xs bytes h = record { count = h.count; each = h.each; whole = h.whole; counted = h.counted; spelled_each = h.spelled_each }

  shape_as : (c d : ℕ → Option Owner) (r : ℕ) (s : List ℕ) (l : List ℤ) (bytes : List ℕ) → SpellsShape (reading c) r s l bytes → SpellsShape (reading d) r s l bytes
  shape_as c d r s l bytes h = record {
    a = h.a;
    b = h.b;
    c = h.c;
    whole = h.whole;
    ranked = h.ranked;
    some = h.some;
    sized = counted_as c d _ s h.b h.sized;
    few_sizes = h.few_sizes;
    bounded = counted_as c d _ l h.c h.bounded;
    few_bounds = h.few_bounds;
  }

  record LayerTwin (l : Layer) (bytes : List ℕ) : Type 0 where
    pub twin : Layer
    pub spelled : SpellsLayer (reading marked) twin bytes
    pub deep : layer_depth twin ≤ layer_depth l
    pub many : layer_nodes twin ≤ layer_nodes l
    pub again : Agree (layer_tokens twin) → SpellsLayer (reading b) l bytes

  pub record TypeTwin (t : SigType) (bytes : List ℕ) : Type 0 where
    pub twin : SigType
    pub spelled : SpellsType (reading marked) twin bytes
    pub deep : depth twin ≤ depth t
    pub many : nodes twin ≤ nodes t
    pub again : Agree (type_tokens twin) → SpellsType (reading b) t bytes

  pub record EachTwin (ts : List SigType) (bytes : List ℕ) : Type 0 where
    pub twins : List SigType
    pub count : length twins ≡ length ts
    pub spelled : SpellsEach (reading marked) twins bytes
    pub deep : largest (map depth twins) ≤ largest (map depth ts)
    pub many : total (map nodes twins) ≤ total (map nodes ts)
    pub again : Agree (flat_map type_tokens twins) → SpellsEach (reading b) ts bytes

  of_layer : (t : SigType) (bytes : List ℕ) → LayerTwin (out-SigType t) bytes → TypeTwin t bytes
  of_layer t bytes h = record {
    twin = roll-SigType h.twin;
    spelled = spelling.made (subst (λ l. SpellsLayer (reading marked) l bytes) (sym (out-roll-SigType h.twin)) h.spelled);
    deep = let d = h.deep in omega (arith, depth-roll h.twin, depth-out t);
    many = let d = h.many in omega (arith, nodes-roll h.twin, nodes-out t);
    again = λ f. spelling.made (h.again (subst Agree (tokens-roll h.twin) f));
  }

  same_tokens : (ts : List SigType) → flat_map (λ (xs : List ℕ). xs) (map type_tokens ts) ≡ flat_map type_tokens ts
  same_tokens [] = refl
  same_tokens (t ∷ ts) = ap (λ (xs : List ℕ). type_tokens t ++ xs) (same_tokens ts)

  mutual
    pub type_twin : {t : SigType} {bytes : List ℕ} → SpellsType (reading a) t bytes → TypeTwin t bytes
    type_twin {t = t} {bytes = bytes} (spelling.made h) = of_layer t bytes (layer_twin h)

    layer_twin : {l : Layer} {bytes : List ℕ} → SpellsLayer (reading a) l bytes → LayerTwin l bytes
    layer_twin (spelling.prim {p = p} e) = record { twin = layer.Prim p; spelled = spelling.prim e; deep = omega arith; many = omega arith; again = λ f. spelling.prim e }
    layer_twin (spelling.class e h) = record { twin = layer.Class (mark h.owner.token); spelled = spelling.class e (name_twin h); deep = omega arith; many = omega arith; again = λ f. spelling.class e (name_again h f) }
    layer_twin (spelling.value e h) = record { twin = layer.Value (mark h.owner.token); spelled = spelling.value e (name_twin h); deep = omega arith; many = omega arith; again = λ f. spelling.value e (name_again h f) }
    layer_twin (spelling.inst {v = v} {args = args} {b = d} e o count some h) =
        let k = each_twin h in
        record {
          twin = layer.Inst v (mark o.token) k.twins;
          spelled = spelling.inst e (owner_twin o) (subst (λ (n : ℕ). (reading marked).number d n) (sym k.count) count) (subst (λ (n : ℕ). 0 < n) (sym k.count) some) k.spelled;
          deep = let x = k.deep in omega arith;
          many = let x = k.many in omega arith;
          again = λ f. spelling.inst e (owner_again o (left (o.token ∷ []) _ f)) count some (k.again (subst Agree (same_tokens k.twins) (right (o.token ∷ []) _ f)));
        }
    layer_twin (spelling.var {n = n} e h lt) = record { twin = layer.Var n; spelled = spelling.var e h lt; deep = omega arith; many = omega arith; again = λ f. spelling.var e h lt }
    layer_twin (spelling.mvar {n = n} e h lt) = record { twin = layer.MVar n; spelled = spelling.mvar e h lt; deep = omega arith; many = omega arith; again = λ f. spelling.mvar e h lt }
    layer_twin (spelling.sz_array e h) =
        let k = type_twin h in
        record { twin = layer.SzArray k.twin; spelled = spelling.sz_array e k.spelled; deep = (let x = k.deep in omega arith); many = (let x = k.many in omega arith); again = λ f. spelling.sz_array e (k.again f) }
    layer_twin (spelling.array {rank = r} {sizes = s} {lower = l} {b = d} e h shape) =
        let k = type_twin h in
        record {
          twin = layer.Array k.twin r s l;
          spelled = spelling.array e k.spelled (shape_as a marked r s l d shape);
          deep = let x = k.deep in omega arith;
          many = let x = k.many in omega arith;
          again = λ f. spelling.array e (k.again f) (shape_as a b r s l d shape);
        }
    layer_twin (spelling.by_ref e h) =
        let k = type_twin h in
        record { twin = layer.ByRef k.twin; spelled = spelling.by_ref e k.spelled; deep = (let x = k.deep in omega arith); many = (let x = k.many in omega arith); again = λ f. spelling.by_ref e (k.again f) }
    layer_twin (spelling.pointer e h) =
        let k = type_twin h in
        record { twin = layer.Pointer k.twin; spelled = spelling.pointer e k.spelled; deep = (let x = k.deep in omega arith); many = (let x = k.many in omega arith); again = λ f. spelling.pointer e (k.again f) }
    layer_twin (spelling.modified {required = r} {by = by} e o h) =
        let k = type_twin h in
        record {
          twin = layer.Mod r (owner.Name (mark o.token)) k.twin;
          spelled = spelling.modified e (owner_twin o) k.spelled;
          deep = let x = k.deep in omega (arith, mark-depth (mark o.token));
          many = let x = k.many in omega (arith, mark-nodes (mark o.token));
          again = λ f.
              let g = subst (λ (xs : List ℕ). Agree (xs ++ type_tokens k.twin)) (mark-tokens (mark o.token)) f in
              spelling.modified e (owner_again o (left (o.token ∷ []) (type_tokens k.twin) g)) (k.again (right (o.token ∷ []) (type_tokens k.twin) g));
        }
    layer_twin (spelling.pinned e h) =
        let k = type_twin h in
        record { twin = layer.Pinned k.twin; spelled = spelling.pinned e k.spelled; deep = (let x = k.deep in omega arith); many = (let x = k.many in omega arith); again = λ f. spelling.pinned e (k.again f) }

    pub each_twin : {ts : List SigType} {bytes : List ℕ} → SpellsEach (reading a) ts bytes → EachTwin ts bytes
    each_twin spelling.none = record { twins = []; count = refl; spelled = spelling.none; deep = omega arith; many = omega arith; again = λ f. spelling.none }
    each_twin (spelling.more e h rest) =
        let k = type_twin h in
        let m = each_twin rest in
        record {
          twins = k.twin ∷ m.twins;
          count = let c = m.count in omega arith;
          spelled = spelling.more e k.spelled m.spelled;
          deep = let x = k.deep in let y = m.deep in omega arith;
          many = let x = k.many in let y = m.many in omega arith;
          again = λ f. spelling.more e (k.again (left (type_tokens k.twin) _ f)) (m.again (right (type_tokens k.twin) _ f));
        }
