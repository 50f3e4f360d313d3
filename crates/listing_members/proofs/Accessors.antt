-- Accessors are read back, by the methods of their class.
use Rattle.std.proofs.Common.{◌≡◌, inl, inr, ℕ, zero, suc, ◌+◌, ◌<◌, ◌&&◌, ◌||◌, not, nat_eq, nat_lt, nat_le, Bool, true, false, cond, List, [], ◌∷◌, ◌++◌, map, length, slice_get, Some, refl, ap, sym, subst, ◌∙◌, arith}
use Rattle.std.proofs.lemmas.Bool.{and_parts, or_cases, eqb-true, ltb-true, false≢true}
use Rattle.std.proofs.lemmas.Iterator.Adapters.{position_from-zero}
use Rattle.std.specs.List.{list_all, list_any, flat_map, position_from}
use Rattle.std.specs.Prelude.{position}
use Rattle.std.specs.Str.{bytes_eq}
use Rattle.ilasm_grammar.specs.Ilasm.{ilasm, rule_by, has_bit}
use Rattle.ilasm_grammar.specs.declared.productions.TheConstants as p
use Rattle.il_lexer.specs.declared.word.TheConstants as word
use Rattle.type_terms.specs.Depth.{owner_depth_step, depth_step}
use Rattle.type_terms.specs.Same.{is_same_signature}
use Rattle.type_terms.specs.declared.name.Scope.TheVariants.{Here}
use Rattle.type_terms.specs.declared.name.TypeId.{TypeId}
use Rattle.type_terms.specs.declared.reference.MethodRef.{MethodRef}
use Rattle.type_terms.specs.declared.term.Owner.{Name}
use Rattle.type_terms.proofs.Layers.{fold-Name}
use Rattle.type_terms.proofs.SameLaws.{signature_itself}
use Rattle.assembly_tree.specs.WellFormedMembers.{is_property_accessor, is_event_accessor, is_accessor_of, is_same_text, is_same_method}
use Rattle.assembly_tree.specs.WellFormedNames.{all_differ, is_name, is_type_name}
use Rattle.assembly_tree.specs.WellFormedTerms as formed
use Rattle.assembly_tree.specs.WellFormedTerms.{is_owner, is_signature, is_method_ref}
use Rattle.assembly_tree.specs.declared.assembly.Assembly.{Assembly}
use Rattle.assembly_tree.specs.declared.assembly.ExternAssembly.{ExternAssembly}
use Rattle.assembly_tree.specs.declared.members.Accessor.{Accessor}
use Rattle.assembly_tree.specs.declared.members.Method.{Method}
use Rattle.assembly_tree.proofs.FormedFacts.{method_refs_named}
use Rattle.source_model.specs.Forest as f
use Rattle.source_model.specs.Members.{is_meant, or_first, accessor, accessor_kind, in_method}
use Rattle.source_model.specs.Nodes.{Around}
use Rattle.source_model.specs.References.{method_name, method_signature, reference_name, reference_signature}
use Rattle.source_model.specs.Source.{Source}
use Rattle.listing_formed.specs.Laws.{Knows, FormedAreRead}
use Rattle.listing_growth.specs.Held.{owner_holds, type_holds, is_signature_held, is_owner_held, is_method_ref_held}
use Rattle.listing_model.specs.Grown.{body_of}
use Rattle.listing_model.specs.Members as written
use Rattle.listing_model.specs.Members.{own_reference, accessor_line}
use Rattle.listing_model.specs.References.{method_ref}
use Rattle.listing_model.specs.Shown.{none, Item, item, put, line, size}
use Rattle.listing_reading.specs.Below.{below, cant_stand}
use Rattle.listing_reading.specs.BelowMasks.{below_masks}
use Rattle.listing_reading.specs.Numbered.{numbered, Agrees}
use Rattle.listing_reading.specs.Rows.{AreAmong, parts_at}
use Rattle.listing_rows.specs.Segments.{ItemsAgree, EachLacks}
use Rattle.listing_members.specs.Laws.{AreMethods, is_head, HasMethods}

both : (x y : Bool) → x ≡ true → y ≡ true → (x && y) ≡ true
both true y h k = k
both false y h k = h

-- ---- the method that is meant

-- texts are compared in one way or the other
texts_agree : (x y : List ℕ) → bytes_eq x y ≡ is_same_text x y
texts_agree [] [] = refl
texts_agree [] (b ∷ y) = refl
texts_agree (a ∷ x) [] = refl
texts_agree (a ∷ x) (b ∷ y) = ap (λ c. nat_eq a b && c) (texts_agree x y)

own_text : (x : List ℕ) → is_same_text x x ≡ true
own_text [] = refl
own_text (a ∷ x) = let self : nat_eq a a ≡ true = grind arith in both (nat_eq a a) (is_same_text x x) self (own_text x)

-- a method with this name and signature is meant exactly where it is the same
meant_is : (s : Source) (around : Around) (x g : f.Forest) (m n : Method) → reference_name s around x ≡ n.name → reference_signature s around x ≡ n.sig →
    method_name s g ≡ m.name → method_signature s (in_method around g) g ≡ m.sig → is_meant s around x g ≡ is_same_method m n
unfolding is_same_method
meant_is s around x g m n name sig own_name own_sig =
    ap (λ t. bytes_eq t (reference_name s around x) && is_same_signature (method_signature s (in_method around g) g) (reference_signature s around x)) own_name
    ∙ (ap (λ t. bytes_eq m.name t && is_same_signature (method_signature s (in_method around g) g) (reference_signature s around x)) name
    ∙ (ap (λ t. bytes_eq m.name n.name && is_same_signature t (reference_signature s around x)) own_sig
    ∙ (ap (λ t. bytes_eq m.name n.name && is_same_signature m.sig t) sig ∙ ap (λ c. c && is_same_signature m.sig n.sig) (texts_agree m.name n.name))))

itself : (m n : Method) → m ≡ n → is_same_method m n ≡ true
unfolding is_same_method
itself m n e = subst (λ k. (is_same_text m.name k.name && is_same_signature m.sig k.sig) ≡ true) e (both _ _ (own_text m.name) (signature_itself m.sig))

first_false : (a b : Bool) → (a || b) ≡ false → a ≡ false
first_false true b g = g
first_false false b g = refl

second_false : (a b : Bool) → (a || b) ≡ false → b ≡ false
second_false true b g = absurd (false≢true (sym g))
second_false false b g = g

not_true : (b : Bool) → not b ≡ true → b ≡ false
not_true false h = refl
not_true true h = absurd (false≢true h)

no_other : (x : Method) (ms : List Method) (k : ℕ) (m : Method) → list_any (is_same_method x) ms ≡ false → slice_get ms k ≡ Some m → is_same_method x m ≡ false
no_other x [] zero m h e = absurd cc
no_other x [] (suc k) m h e = absurd cc
no_other x (y ∷ ms) zero m h e =
    let same : y ≡ m = cc in subst (λ n. is_same_method x n ≡ false) same (first_false (is_same_method x y) (list_any (is_same_method x) ms) h)
no_other x (y ∷ ms) (suc k) m h e = no_other x ms k m (second_false (is_same_method x y) (list_any (is_same_method x) ms) h) e

module _ (s : Source) (around : Around) (x : f.Forest) (m : Method) (name : reference_name s around x ≡ m.name) (sig : reference_signature s around x ≡ m.sig) where
  there_from : (j : ℕ) (gs : List f.Forest) (ms : List Method) → AreMethods s around gs ms → all_differ is_same_method ms ≡ true → (k : ℕ) → slice_get ms k ≡ Some m →
      position_from (is_meant s around x) j gs ≡ Some (j + k)
  there_from j [] [] r d zero e = absurd cc
  there_from j [] [] r d (suc k) e = absurd cc
  there_from j [] (n ∷ ms) r d k e = absurd r
  there_from j (g ∷ gs) [] r d k e = absurd r
  there_from j (g ∷ gs) (n ∷ ms) r d zero e =
      let same : n ≡ m = cc in
      let at : j ≡ j + 0 = omega arith in
      ap (λ c. cond c (Some j) (position_from (is_meant s around x) (j + 1) gs)) (meant_is s around x g n m name sig r.0 r.1 ∙ itself n m same) ∙ ap (λ i. Some i) at
  there_from j (g ∷ gs) (n ∷ ms) r d (suc k) e =
      let ds = and_parts (not (list_any (is_same_method n) ms)) (all_differ is_same_method ms) d in
      let at : (j + 1) + k ≡ j + suc k = omega arith in
      ap (λ c. cond c (Some j) (position_from (is_meant s around x) (j + 1) gs)) (meant_is s around x g n m name sig r.0 r.1 ∙ no_other n ms k m (not_true _ ds.0) e)
      ∙ (there_from (j + 1) gs ms r.2 ds.1 k e ∙ ap (λ i. Some i) at)

  there : (gs : List f.Forest) (ms : List Method) → AreMethods s around gs ms → all_differ is_same_method ms ≡ true → (k : ℕ) → slice_get ms k ≡ Some m →
      position (is_meant s around x) gs ≡ Some k
  there gs ms r d k e =
      let at : 0 + k ≡ k = omega arith in position_from-zero (is_meant s around x) gs ∙ (there_from 0 gs ms r d k e ∙ ap (λ i. Some i) at)

-- ---- a method's reference to itself

module _ (a : Assembly) (path : List TypeId) (named : is_type_name a (record { scope = Here; path = path }) ≡ true) (inside : nat_lt 0 (length path) ≡ true) where
  owner_ok : (is_owner a (Name (record { scope = Here; path = path })) ≡ true) × (is_owner_held (Name (record { scope = Here; path = path })) ≡ true)
  unfolding is_owner is_owner_held
  owner_ok = (
    both _ _ (ap (λ d. nat_le d 100) (fold-Name ℕ ℕ owner_depth_step depth_step (record { scope = Here; path = path }))) (fold-Name Bool Bool (formed.owner_step a) (formed.type_step a) (record { scope = Here; path = path }) ∙ named),
    fold-Name Bool Bool owner_holds type_holds (record { scope = Here; path = path }) ∙ inside,
  )

  reference_ok : (m : Method) → is_head a m ≡ true → (is_method_ref a (own_reference path m) ≡ true) × (is_method_ref_held (own_reference path m) ≡ true)
  unfolding is_method_ref_held
  reference_ok m h =
      let hs = and_parts (is_name m.name) (is_signature a m.sig && is_signature_held m.sig) h in
      let ks = and_parts (is_signature a m.sig) (is_signature_held m.sig) hs.1 in (
        (method_refs_named a (own_reference path m)).1 (record { name = hs.0; arguments = refl; owner = owner_ok.0; sig = ks.0; args = refl }),
        both _ _ (both _ _ owner_ok.1 ks.1) refl,
      )

-- ---- lines

less_by_one : (j n : ℕ) → suc j < suc n → j < n
less_by_one j n h = omega arith

none_below : (j : ℕ) → j < 0 → ⊥
none_below j h = absurd (omega arith)

got : (ms : List Method) (k : ℕ) → k < length ms → (m : Method) × (slice_get ms k ≡ Some m)
got [] k h = absurd (none_below k h)
got (m ∷ ms) zero h = (m, refl)
got (m ∷ ms) (suc k) h = got ms k (less_by_one k (length ms) h)

get_passes : (t : Method → Bool) (ms : List Method) (k : ℕ) (m : Method) → list_all t ms ≡ true → slice_get ms k ≡ Some m → t m ≡ true
get_passes t [] zero m h e = absurd cc
get_passes t [] (suc k) m h e = absurd cc
get_passes t (x ∷ ms) zero m h e = let same : x ≡ m = cc in subst (λ y. t y ≡ true) same (and_parts (t x) (list_all t ms) h).0
get_passes t (x ∷ ms) (suc k) m h e = get_passes t ms k m (and_parts (t x) (list_all t ms) h).1 e

abbrev pub accessor_parts : List ℕ
accessor_parts =
    p.PROPERTY_ITEM_GET ∷ p.PROPERTY_ITEM_SET ∷ p.PROPERTY_ITEM_OTHER ∷ p.EVENT_ITEM_ADDON ∷ p.EVENT_ITEM_REMOVEON ∷ p.EVENT_ITEM_FIRE
    ∷ p.EVENT_ITEM_OTHER ∷ []

abbrev of_kind : ℕ → Accessor → Accessor
of_kind k x = record { kind = k; method = x.method }

module _ (externs : List ExternAssembly) (path : List TypeId) (ms : List Method) where
  abbrev own_line : ℕ → ℕ → Method → Item
  own_line q k m = item q (line k (put (method_ref externs (own_reference path m)) none))

  -- an accessor is one line, and no attribute stands in it
  pub record OneLine (other custom : ℕ) (x : Accessor) (m : Method) : Type 0 where
    pub production : ℕ
    pub word : ℕ
    pub shown : written.accessor externs other path ms x ≡ own_line production word m ∷ []
    pub kind : accessor_kind production ≡ x.kind
    pub among : f.is_among accessor_parts production ≡ true
    pub no_custom : f.is_among (custom ∷ []) production ≡ false
    pub holds_none : cant_stand (custom ∷ []) (body_of production) ≡ true

  abbrev of_property : Accessor → Method → Type 0
  of_property x m = OneLine p.PROPERTY_ITEM_OTHER p.PROPERTY_ITEM_CUSTOM x m

  abbrev of_event : Accessor → Method → Type 0
  of_event x m = OneLine p.EVENT_ITEM_OTHER p.EVENT_ITEM_CUSTOM x m

  module _ (x : Accessor) (m : Method) (e : slice_get ms x.method ≡ Some m) where
    sets : of_property (of_kind 1 x) m
    unfolding ilasm rule_by has_bit below below_masks
    sets = record { production = p.PROPERTY_ITEM_SET; word = word.DOT_SET; shown = ap (accessor_line externs p.PROPERTY_ITEM_SET word.DOT_SET path) e; kind = refl; among = refl; no_custom = refl; holds_none = refl }

    gets : of_property (of_kind 2 x) m
    unfolding ilasm rule_by has_bit below below_masks
    gets = record { production = p.PROPERTY_ITEM_GET; word = word.DOT_GET; shown = ap (accessor_line externs p.PROPERTY_ITEM_GET word.DOT_GET path) e; kind = refl; among = refl; no_custom = refl; holds_none = refl }

    others : of_property (of_kind 4 x) m
    unfolding ilasm rule_by has_bit below below_masks
    others = record { production = p.PROPERTY_ITEM_OTHER; word = word.DOT_OTHER; shown = ap (accessor_line externs p.PROPERTY_ITEM_OTHER word.DOT_OTHER path) e; kind = refl; among = refl; no_custom = refl; holds_none = refl }

    adds : of_event (of_kind 8 x) m
    unfolding ilasm rule_by has_bit below below_masks
    adds = record { production = p.EVENT_ITEM_ADDON; word = word.DOT_ADDON; shown = ap (accessor_line externs p.EVENT_ITEM_ADDON word.DOT_ADDON path) e; kind = refl; among = refl; no_custom = refl; holds_none = refl }

    removes : of_event (of_kind 0x10 x) m
    unfolding ilasm rule_by has_bit below below_masks
    removes = record { production = p.EVENT_ITEM_REMOVEON; word = word.DOT_REMOVEON; shown = ap (accessor_line externs p.EVENT_ITEM_REMOVEON word.DOT_REMOVEON path) e; kind = refl; among = refl; no_custom = refl; holds_none = refl }

    fires : of_event (of_kind 0x20 x) m
    unfolding ilasm rule_by has_bit below below_masks
    fires = record { production = p.EVENT_ITEM_FIRE; word = word.DOT_FIRE; shown = ap (accessor_line externs p.EVENT_ITEM_FIRE word.DOT_FIRE path) e; kind = refl; among = refl; no_custom = refl; holds_none = refl }

    more : of_event (of_kind 4 x) m
    unfolding ilasm rule_by has_bit below below_masks
    more = record { production = p.EVENT_ITEM_OTHER; word = word.DOT_OTHER; shown = ap (accessor_line externs p.EVENT_ITEM_OTHER word.DOT_OTHER path) e; kind = refl; among = refl; no_custom = refl; holds_none = refl }

    property_line : is_property_accessor x ≡ true → of_property x m
    property_line h = elim (or_cases _ _ h) [
      | inl two ↦ elim (or_cases _ _ two) [
        | inl q ↦ subst (λ k. of_property (of_kind k x) m) (sym (eqb-true x.kind 1 q)) sets
        | inr q ↦ subst (λ k. of_property (of_kind k x) m) (sym (eqb-true x.kind 2 q)) gets
      ]
      | inr q ↦ subst (λ k. of_property (of_kind k x) m) (sym (eqb-true x.kind 4 q)) others
    ]

    event_line : is_event_accessor x ≡ true → of_event x m
    event_line h = elim (or_cases _ _ h) [
      | inl three ↦ elim (or_cases _ _ three) [
        | inl two ↦ elim (or_cases _ _ two) [
          | inl q ↦ subst (λ k. of_event (of_kind k x) m) (sym (eqb-true x.kind 4 q)) more
          | inr q ↦ subst (λ k. of_event (of_kind k x) m) (sym (eqb-true x.kind 8 q)) adds
        ]
        | inr q ↦ subst (λ k. of_event (of_kind k x) m) (sym (eqb-true x.kind 0x10 q)) removes
      ]
      | inr q ↦ subst (λ k. of_event (of_kind k x) m) (sym (eqb-true x.kind 0x20 q)) fires
    ]

pub property_lines : (externs : List ExternAssembly) (path : List TypeId) (ms : List Method) (x : Accessor) → is_property_accessor x ≡ true → (m : Method) →
    slice_get ms x.method ≡ Some m → OneLine externs path ms p.PROPERTY_ITEM_OTHER p.PROPERTY_ITEM_CUSTOM x m
property_lines externs path ms x h m e = property_line externs path ms x m e h

pub event_lines : (externs : List ExternAssembly) (path : List TypeId) (ms : List Method) (x : Accessor) → is_event_accessor x ≡ true → (m : Method) →
    slice_get ms x.method ≡ Some m → OneLine externs path ms p.EVENT_ITEM_OTHER p.EVENT_ITEM_CUSTOM x m
event_lines externs path ms x h m e = event_line externs path ms x m e h

-- ---- rows of them

module _ (formed_terms : FormedAreRead) (s : Source) (around : Around) (a : Assembly) (knows : Knows s a) (path : List TypeId) (gs : List f.Forest) (ms : List Method) (has : HasMethods s around a path gs ms) where
  accessor_read : (q k : ℕ) (m : Method) (n : ℕ) → slice_get ms n ≡ Some m → (at : ℕ) → Agrees s at (own_line a.externs path ms q k m).below →
      accessor s around gs (f.part q (numbered at (own_line a.externs path ms q k m).below)) ≡ record { kind = accessor_kind q; method = n }
  unfolding method_ref
  accessor_read q k m n e at ag =
      let r = own_reference path m in
      let ok = reference_ok a path has.named has.inside m (get_passes (is_head a) ms n m has.heads e) in
      let x = numbered (suc at) (method_ref a.externs r).below in
      let whole = formed_terms.methods s around a knows r ok.0 ok.1 (suc at) ag.1.0 in
      let found = there s around x m (ap (λ (z : MethodRef). z.name) whole) (ap (λ (z : MethodRef). z.sig) whole) gs ms has.read has.differ n e in
      λ i. record { kind = accessor_kind q; method = or_first (found i) }

  module _ (other custom : ℕ) (test : Accessor → Bool) (line_of : (x : Accessor) → test x ≡ true → (m : Method) → slice_get ms x.method ≡ Some m → OneLine a.externs path ms other custom x m) where
    abbrev all : List Accessor → List Item
    all xs = flat_map (written.accessor a.externs other path ms) xs

    one_of : (x : Accessor) → test x ≡ true → is_accessor_of (length ms) x ≡ true → (m : Method) × OneLine a.externs path ms other custom x m × (slice_get ms x.method ≡ Some m)
    one_of x h l = let g = got ms x.method (ltb-true x.method (length ms) l) in (g.0, line_of x h g.0 g.1, g.1)

    pub row_among : (xs : List Accessor) → list_all test xs ≡ true → list_all (is_accessor_of (length ms)) xs ≡ true → AreAmong accessor_parts (all xs)
    row_among [] h l = tt
    row_among (x ∷ xs) h l =
        let hs = and_parts (test x) (list_all test xs) h in
        let ls = and_parts (is_accessor_of (length ms) x) (list_all (is_accessor_of (length ms)) xs) l in
        let o = one_of x hs.0 ls.0 in
        subst (λ is. AreAmong accessor_parts (is ++ all xs)) (sym o.1.shown) (o.1.among, row_among xs hs.1 ls.1)

    pub row_lacks : (xs : List Accessor) → list_all test xs ≡ true → list_all (is_accessor_of (length ms)) xs ≡ true → EachLacks (custom ∷ []) (all xs)
    row_lacks [] h l = tt
    row_lacks (x ∷ xs) h l =
        let hs = and_parts (test x) (list_all test xs) h in
        let ls = and_parts (is_accessor_of (length ms) x) (list_all (is_accessor_of (length ms)) xs) l in
        let o = one_of x hs.0 ls.0 in
        subst (λ is. EachLacks (custom ∷ []) (is ++ all xs)) (sym o.1.shown) (o.1.no_custom, o.1.holds_none, row_lacks xs hs.1 ls.1)

    pub row_read : (xs : List Accessor) → list_all test xs ≡ true → list_all (is_accessor_of (length ms)) xs ≡ true → (at : ℕ) → ItemsAgree s at (all xs) →
        map (accessor s around gs) (parts_at at (all xs)) ≡ xs
    row_read [] h l at ag = refl
    row_read (x ∷ xs) h l at ag =
        let hs = and_parts (test x) (list_all test xs) h in
        let ls = and_parts (is_accessor_of (length ms) x) (list_all (is_accessor_of (length ms)) xs) l in
        let o = one_of x hs.0 ls.0 in
        let kind_is = o.1.kind in
        let its_kind : record { kind = accessor_kind o.1.production; method = x.method } ≡ x = λ i. record { kind = kind_is i; method = x.method } in
        subst (λ is. ItemsAgree s at (is ++ all xs) → map (accessor s around gs) (parts_at at (is ++ all xs)) ≡ x ∷ xs) (sym o.1.shown)
        (λ got_it.
        let next = at + size (own_line a.externs path ms o.1.production o.1.word o.0).below in
        ap (λ y. y ∷ map (accessor s around gs) (parts_at next (all xs))) (accessor_read o.1.production o.1.word o.0 x.method o.2 at got_it.0 ∙ its_kind)
        ∙ ap (λ ys. x ∷ ys) (row_read xs hs.1 ls.1 next got_it.1))
        ag
