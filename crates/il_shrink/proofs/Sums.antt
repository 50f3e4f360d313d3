-- What is summed over methods and types stays the same: weights, entry points and texts.
use Rattle.std.proofs.Common.{◌≡◌, ◌∙◌, sym, ap, refl, ℕ, ◌+◌, ◌*◌, cond, List, [], ◌∷◌, ◌++◌, length, map, Option, None, Some, arith}
use Rattle.std.specs.List.{sum_by, flat_map}
use Rattle.std.proofs.lemmas.List.Sums.{sum_by-cons, sum-map}
use Rattle.assembly_tree.specs.declared.assembly.Assembly.{Assembly}
use Rattle.assembly_tree.specs.declared.body.Body.{Body}
use Rattle.assembly_tree.specs.declared.members.Method.{Method}
use Rattle.assembly_tree.specs.declared.typedef.TypeDef.{TypeDef}
use Rattle.assembly_tree.specs.declared.typedef.TypeDef.TheOpen.{TypeDef-F}
use Rattle.assembly_tree.specs.declared.typedef.TypeDef.TheFolds.{fold_out-TypeDef}
use Rattle.assembly_tree.specs.declared.typedef.TypeDef.TheViews.{out-TypeDef}
use Rattle.assembly_tree.specs.Room.{Units, body_texts, method_texts, typedef_texts_step, typedef_texts, texts, room_of_texts, room}
use Rattle.assembly_tree.specs.Weight.{optional, signature_weight, generic_weight, param_weight, method_ref_weight, body_weight, attribute_weight, method_weight, owner_weight, bounds_weight, field_weight, property_weight, event_weight, own_weight, typedef_step, typedef_weight, extern_weight, manifest_weight, weight_of}
use Rattle.assembly_tree.specs.WellFormedTypes.{entries_in, entries_step, entries_of, entries}
use Rattle.il_shrink.specs.ShrunkAll.{IsShrunkBody, IsShrunkMethod, AreShrunkMethods, IsShrunkOwn, AreShrunkTypes, none, more, IsShrunkAll}
use Rattle.il_shrink.proofs.Kept.{weight_kept, body_texts_kept}

-- ---- methods

module _ (weigh : Method → ℕ) (kept : (m n : Method) → IsShrunkMethod m n → weigh n ≡ weigh m) where
  methods_sum : (ms ns : List Method) → AreShrunkMethods ms ns → sum_by weigh ns ≡ sum_by weigh ms
  methods_sum [] [] h = refl
  methods_sum [] (n ∷ ns) h = absurd h
  methods_sum (m ∷ ms) [] h = absurd h
  methods_sum (m ∷ ms) (n ∷ ns) h =
      let first : weigh n ≡ weigh m = kept m n h.0 in
      let rest : sum_by weigh ns ≡ sum_by weigh ms = methods_sum ms ns h.1 in
      simp sum_by-cons (omega arith)

body_same : (p q : Option Body) → IsShrunkBody p q → optional body_weight q ≡ optional body_weight p
body_same None None h = refl
body_same None (Some c) h = absurd h
body_same (Some b) None h = absurd h
body_same (Some b) (Some c) h = weight_kept b c h

weight_with : (m : Method) (q : Option Body) → IsShrunkBody m.body q → method_weight (record m { body = q }) ≡ method_weight m
unfolding method_weight
weight_with m q h =
    ap (λ w.
    64 + length m.name + signature_weight m.sig + sum_by generic_weight m.generics + sum_by param_weight m.params + 64 * length m.overrides
    + sum_by method_ref_weight m.overrides + w + sum_by attribute_weight m.attributes)
    (body_same m.body q h)

method_same : (m n : Method) → IsShrunkMethod m n → method_weight n ≡ method_weight m
method_same m n h = ap method_weight h.same ∙ weight_with m n.body h.body

methods_weight : (ms ns : List Method) → AreShrunkMethods ms ns → sum_by method_weight ns ≡ sum_by method_weight ms
methods_weight = methods_sum method_weight method_same

abbrev entry_count : Method → ℕ
entry_count m = cond m.entry 1 0

methods_entries : (ms ns : List Method) → AreShrunkMethods ms ns → entries_in ns ≡ entries_in ms
methods_entries = methods_sum entry_count (λ m n h. ap entry_count h.same)

texts_with : (p q : Option Body) → IsShrunkBody p q → body_texts q ≡ body_texts p
unfolding body_texts
texts_with None None h = refl
texts_with None (Some c) h = absurd h
texts_with (Some b) None h = absurd h
texts_with (Some b) (Some c) h = body_texts_kept b c h

methods_texts : (ms ns : List Method) → AreShrunkMethods ms ns → flat_map method_texts ns ≡ flat_map method_texts ms
unfolding method_texts
methods_texts [] [] h = refl
methods_texts [] (n ∷ ns) h = absurd h
methods_texts (m ∷ ms) [] h = absurd h
methods_texts (m ∷ ms) (n ∷ ns) h =
    ap (λ l. l ++ flat_map method_texts ns) (texts_with m.body n.body h.0.body) ∙ ap (λ l. method_texts m ++ l) (methods_texts ms ns h.1)

-- ---- types

module _ (weigh : TypeDef → ℕ) (own : TypeDef-F TypeDef → ℕ)
    (layer : (t : TypeDef) → weigh t ≡ own (out-TypeDef t) + sum_by weigh (out-TypeDef t).nested)
    (kept : (t u : TypeDef-F TypeDef) → IsShrunkOwn t u → own u ≡ own t) where
  types_sum : {ts us : List TypeDef} → AreShrunkTypes ts us → sum_by weigh us ≡ sum_by weigh ts
  types_sum none = refl
  types_sum (more {t} {u} {ts} {us} here nested rest) =
      let own_is : own (out-TypeDef u) ≡ own (out-TypeDef t) = kept (out-TypeDef t) (out-TypeDef u) here in
      let within : sum_by weigh (out-TypeDef u).nested ≡ sum_by weigh (out-TypeDef t).nested = types_sum nested in
      let behind : sum_by weigh us ≡ sum_by weigh ts = types_sum rest in
      let t_is : weigh t ≡ own (out-TypeDef t) + sum_by weigh (out-TypeDef t).nested = layer t in
      let u_is : weigh u ≡ own (out-TypeDef u) + sum_by weigh (out-TypeDef u).nested = layer u in
      simp sum_by-cons (omega arith)

typedef_weight_out : (t : TypeDef) → typedef_weight t ≡ own_weight (out-TypeDef t) + sum_by typedef_weight (out-TypeDef t).nested
unfolding own_weight
typedef_weight_out t =
    fold_out-TypeDef ℕ typedef_step t ∙ ap (λ s. own_weight (out-TypeDef t) + s) (sum-map typedef_weight (out-TypeDef t).nested)

own_with : (t : TypeDef-F TypeDef) (ms : List Method) (ns : List TypeDef) → AreShrunkMethods t.methods ms →
    own_weight (record t { methods = ms; nested = ns }) ≡ own_weight t
unfolding own_weight
own_with t ms ns h =
    ap (λ w.
    64 + length t.id.space + length t.id.name + optional (λ _. 64) t.layout + sum_by generic_weight t.generics + optional owner_weight t.extends
    + bounds_weight t.implements + sum_by field_weight t.fields + w + sum_by property_weight t.properties + sum_by event_weight t.events
    + sum_by attribute_weight t.attributes)
    (methods_weight t.methods ms h)

own_same : (t u : TypeDef-F TypeDef) → IsShrunkOwn t u → own_weight u ≡ own_weight t
own_same t u h = ap own_weight h.same ∙ own_with t u.methods u.nested h.methods

types_weight : {ts us : List TypeDef} → AreShrunkTypes ts us → sum_by typedef_weight us ≡ sum_by typedef_weight ts
types_weight h = types_sum typedef_weight own_weight typedef_weight_out own_same h

entries_out : (t : TypeDef) → entries_of t ≡ entries_in (out-TypeDef t).methods + sum_by entries_of (out-TypeDef t).nested
entries_out t =
    fold_out-TypeDef ℕ entries_step t ∙ ap (λ s. entries_in (out-TypeDef t).methods + s) (sum-map entries_of (out-TypeDef t).nested)

types_entries : {ts us : List TypeDef} → AreShrunkTypes ts us → sum_by entries_of us ≡ sum_by entries_of ts
types_entries h = types_sum entries_of (λ t. entries_in t.methods) entries_out (λ t u own. methods_entries t.methods u.methods own.methods) h

mapped : (ts : List TypeDef) → flat_map (λ xs. xs) (map typedef_texts ts) ≡ flat_map typedef_texts ts
mapped [] = refl
mapped (t ∷ ts) = ap (λ xs. typedef_texts t ++ xs) (mapped ts)

texts_out : (t : TypeDef) → typedef_texts t ≡ flat_map method_texts (out-TypeDef t).methods ++ flat_map typedef_texts (out-TypeDef t).nested
texts_out t = fold_out-TypeDef (List Units) typedef_texts_step t ∙ ap (λ xs. flat_map method_texts (out-TypeDef t).methods ++ xs) (mapped (out-TypeDef t).nested)

types_texts : {ts us : List TypeDef} → AreShrunkTypes ts us → flat_map typedef_texts us ≡ flat_map typedef_texts ts
types_texts none = refl
types_texts (more {t} {u} {ts} {us} here nested rest) =
    let within =
    texts_out u ∙ ap (λ l. l ++ flat_map typedef_texts (out-TypeDef u).nested) (methods_texts (out-TypeDef t).methods (out-TypeDef u).methods here.methods)
    ∙ ap (λ l. flat_map method_texts (out-TypeDef t).methods ++ l) (types_texts nested) ∙ sym (texts_out t) in
    ap (λ l. l ++ flat_map typedef_texts us) within ∙ ap (λ l. typedef_texts t ++ l) (types_texts rest)

-- ---- the assembly

weight_made : (a : Assembly) (ms : List Method) (ts : List TypeDef) → AreShrunkMethods a.methods ms → AreShrunkTypes a.types ts →
    weight_of (record a { methods = ms; types = ts }) ≡ weight_of a
unfolding weight_of
weight_made a ms ts h g =
    ap (λ w. 32768 + manifest_weight a.manifest + sum_by extern_weight a.externs + sum_by field_weight a.fields + w + sum_by typedef_weight ts)
    (methods_weight a.methods ms h)
    ∙ ap (λ w. 32768 + manifest_weight a.manifest + sum_by extern_weight a.externs + sum_by field_weight a.fields + sum_by method_weight a.methods + w)
    (types_weight g)

pub weight_same : (a c : Assembly) → IsShrunkAll a c → weight_of c ≡ weight_of a
weight_same a c h = ap weight_of h.same ∙ weight_made a c.methods c.types h.methods h.types

pub entries_same : (a c : Assembly) → IsShrunkAll a c → entries c ≡ entries a
unfolding entries
entries_same a c h =
    ap (λ n. n + sum_by entries_of c.types) (methods_entries a.methods c.methods h.methods) ∙ ap (λ n. entries_in a.methods + n) (types_entries h.types)

texts_same : (a c : Assembly) → IsShrunkAll a c → texts c ≡ texts a
unfolding texts
texts_same a c h =
    ap (λ l. l ++ flat_map typedef_texts c.types) (methods_texts a.methods c.methods h.methods)
    ∙ ap (λ l. flat_map method_texts a.methods ++ l) (types_texts h.types)

pub room_same : (a c : Assembly) → IsShrunkAll a c → room c ≡ room a
unfolding room
room_same a c h = ap room_of_texts (texts_same a c h)
