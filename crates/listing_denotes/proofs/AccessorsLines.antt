-- Lines of accessors break no rule: each names a method of its type.
use Rattle.std.proofs.Common.{◌≡◌, ℕ, zero, suc, ◌<◌, ◌&&◌, ◌||◌, not, nat_eq, nat_lt, nat_le, Bool, true, false, cond, if◌then◌else◌, List, [], ◌∷◌, ◌++◌, filter, take, length, slice_get, Option, None, Some, refl, ap, sym, subst, ◌∙◌, arith}
use Rattle.std.proofs.lemmas.Bool.{and_parts, ltb-true}
use Rattle.std.proofs.lemmas.Slice.Eq.{bytes_eq-Decides}
use Rattle.std.specs.List.{list_all, list_any, flat_map}
use Rattle.std.specs.Prelude.{⊤, is_some}
use Rattle.std.specs.Str.{bytes_eq}
use lib.Pointwise.{bytes_decides}
use Rattle.il_lexer.specs.declared.word.TheConstants as word
use Rattle.ilasm_grammar.specs.Ilasm.{ilasm, rule_by, has_bit}
use Rattle.ilasm_grammar.specs.declared.productions.TheConstants as p
use Rattle.type_terms.specs.Depth.{owner_depth_step, depth_step}
use Rattle.type_terms.specs.Same.{is_same_signature}
use Rattle.type_terms.specs.declared.name.Scope.TheVariants.{Here}
use Rattle.type_terms.specs.declared.name.TypeId.{TypeId}
use Rattle.type_terms.specs.declared.reference.MethodRef.{MethodRef}
use Rattle.type_terms.specs.declared.term.Owner.{Name, out-Owner}
use Rattle.type_terms.specs.declared.term.Owner.TheVariants as o
use Rattle.type_terms.proofs.Layers.{fold-Name}
use Rattle.type_terms.proofs.SameLaws.{signature_itself}
use Rattle.assembly_tree.specs.DataSize.{is_id}
use Rattle.assembly_tree.specs.WellFormedMembers.{is_accessor_of}
use Rattle.assembly_tree.specs.WellFormedNames.{is_name, is_module, is_type_name}
use Rattle.assembly_tree.specs.WellFormedTerms as formed
use Rattle.assembly_tree.specs.WellFormedTerms.{is_owner, is_signature, is_method_ref}
use Rattle.assembly_tree.specs.declared.assembly.Assembly.{Assembly}
use Rattle.assembly_tree.specs.declared.assembly.ExternAssembly.{ExternAssembly}
use Rattle.assembly_tree.specs.declared.members.Accessor.{Accessor}
use Rattle.assembly_tree.specs.declared.members.Method.{Method}
use Rattle.assembly_tree.proofs.FormedFacts.{method_refs_named}
use Rattle.source_model.specs.Forest as f
use Rattle.source_model.specs.Members.{is_meant, in_method, method_forests}
use Rattle.source_model.specs.Names.{is_path, scope_named}
use Rattle.source_model.specs.Nodes.{Around, nodes_in, entered}
use Rattle.source_model.specs.References.{method_name, method_signature, reference_name, reference_signature}
use Rattle.source_model.specs.Signatures.{generic_arguments_token, is_method_unbroken, is_reference_unbroken}
use Rattle.source_model.specs.Source.{Source}
use Rattle.source_model.specs.Values.{scope_text}
use Rattle.source_model.specs.Undeclared.{is_class_named, has_known_scope, names_this_class, is_this_class, is_one_of, accessor_undeclared_of}
use Rattle.source_model.specs.Items.{members}
use Rattle.faultless_nodes.specs.Laws.{BreaksNothing, EachBreaksNothing, UnaskedBreakNothing}
use Rattle.listing_declarations.specs.Laws.{IsListingOf}
use Rattle.listing_formed.specs.Laws.{Knows, FormedAreRead, FormedAreReadable}
use Rattle.listing_growth.specs.Held.{owner_holds, type_holds, is_signature_held, is_owner_held, is_method_ref_held}
use Rattle.listing_growth.specs.Laws.{ReferencesStand}
use Rattle.listing_members.specs.Laws.{AreMethods, is_head}
use Rattle.listing_model.specs.Grown.{body_of}
use Rattle.listing_model.specs.Members as written
use Rattle.listing_model.specs.Members.{own_reference, accessor_line}
use Rattle.listing_model.specs.References.{method_ref, target_path, target_here, target_of}
use Rattle.listing_model.specs.Shown.{Shown, none, Item, item, put, line}
use Rattle.listing_model.specs.Types.{name, type_id}
use Rattle.listing_reading.specs.Below.{below, cant_stand}
use Rattle.listing_reading.specs.BelowMasks.{below_masks}
use Rattle.listing_reading.specs.Laws.{SearchesPass}
use Rattle.listing_reading.specs.Numbered.{numbered, Agrees, place}
use Rattle.listing_rows.specs.Laws.{SegmentsAreRead, PiecesAreRead}
use Rattle.listing_rows.specs.Segments.{end_of, ItemsAgree, pieces_at}
use Rattle.listing_denotes.specs.Accessors.{IsInType}
use Rattle.listing_denotes.specs.Quiet.{ItemsBreakNothing, RowsBreakNothing}
use Rattle.listing_denotes.specs.Values.{NumbersAlone}
use Rattle.listing_denotes.specs.References.{ReferencesBreakNothing, PlainReferencesHaveNone}
use Rattle.listing_denotes.specs.Whole.{ListingsAreRead}

both : (x y : Bool) → x ≡ true → y ≡ true → (x && y) ≡ true
both true y h k = k
both false y h k = h

and_false : (x : Bool) → (x && false) ≡ false
and_false true = refl
and_false false = refl

or_true : (x : Bool) → (x || true) ≡ true
or_true true = refl
or_true false = refl

or_else : (x y : Bool) → y ≡ true → (x || y) ≡ true
or_else x y h = ap (λ (z : Bool). x || z) h ∙ or_true x

-- ---- a path is itself

id_itself : (i : TypeId) → is_id i i ≡ true
id_itself i = both _ _ ((bytes_decides i.space i.space).1 refl) ((bytes_decides i.name i.name).1 refl)

path_itself : (ids : List TypeId) → is_path ids ids ≡ true
path_itself [] = refl
path_itself (i ∷ ids) = both (is_id i i) (is_path ids ids) (id_itself i) (path_itself ids)

-- ---- a method's reference to itself

module _ (a : Assembly) (path : List TypeId) (named : is_type_name a (record { scope = Here; path = path }) ≡ true) (inside : nat_lt 0 (length path) ≡ true) where
  owner_ok : (is_owner a (Name (record { scope = Here; path = path })) ≡ true) × (is_owner_held (Name (record { scope = Here; path = path })) ≡ true)
  unfolding is_owner is_owner_held
  owner_ok = (
    both _ _ (ap (λ d. nat_le d 100) (fold-Name ℕ ℕ owner_depth_step depth_step (record { scope = Here; path = path }))) (fold-Name Bool Bool (formed.owner_step a) (formed.type_step a) (record { scope = Here; path = path }) ∙ named),
    fold-Name Bool Bool owner_holds type_holds (record { scope = Here; path = path }) ∙ inside,
  )

  reference_ok : (m : Method) → is_head a m ≡ true → (is_method_ref a (own_reference path m) ≡ true) × (is_method_ref_held (own_reference path m) ≡ true)
  unfolding is_method_ref_held
  reference_ok m h =
      let hs = and_parts (is_name m.name) (is_signature a m.sig && is_signature_held m.sig) h in
      let ks = and_parts (is_signature a m.sig) (is_signature_held m.sig) hs.1 in (
        (method_refs_named a (own_reference path m)).1 (record { name = hs.0; arguments = refl; owner = owner_ok.0; sig = ks.0; args = refl }),
        both _ _ (both _ _ owner_ok.1 ks.1) refl,
      )

-- ---- it names no other assembly

no_scope_before : cant_stand (p.TARGET_SCOPE ∷ []) (take 2 (body_of p.METHOD_REF)) ≡ true
unfolding ilasm rule_by has_bit below below_masks
no_scope_before = refl

no_scope_in_name : cant_stand (p.TARGET_SCOPE ∷ []) (body_of p.TARGET_NAME) ≡ true
unfolding ilasm rule_by has_bit below below_masks
no_scope_in_name = refl

here_named : (externs : List ExternAssembly) (ids : List TypeId) (r : MethodRef) → (target_here externs ids r).production ≡ p.TARGET_NAME
here_named externs [] r = refl
here_named externs (id ∷ []) r = by (is_module id) (name r.name (target_path externs [] r)) (type_id id (target_path externs (id ∷ []) r))
  where
    by : (c : Bool) (g h : Shown) → (cond c (item p.TARGET_NAME g) (item p.TARGET_NAME h)).production ≡ p.TARGET_NAME
    by true g h = refl
    by false g h = refl
here_named externs (id ∷ next ∷ more) r = refl

own_named : (externs : List ExternAssembly) (path : List TypeId) (m : Method) → (target_of externs (out-Owner (own_reference path m).owner) (own_reference path m)).production ≡ p.TARGET_NAME
own_named externs path m =
    ap (λ l. (target_of externs l (own_reference path m)).production) (o.outs-Name (record { scope = Here; path = path })) ∙ here_named externs path (own_reference path m)

module _ (searches : SearchesPass) (stand : ReferencesStand) (readable : FormedAreReadable) (a : Assembly) (s : Source) (knows : Knows s a) where
  no_scope : (path : List TypeId) (m : Method) → is_method_ref a (own_reference path m) ≡ true → is_method_ref_held (own_reference path m) ≡ true → (at : ℕ) →
      f.has p.TARGET_SCOPE (numbered at (method_ref a.externs (own_reference path m)).below) ≡ false
  unfolding ilasm rule_by method_ref
  no_scope path m h l at =
      let r = own_reference path m in
      let grown = stand.methods a.externs r (readable.methods a knows.names r h l).1 in
      let target = target_of a.externs (out-Owner r.owner) r in
      let from = place 2 at (method_ref a.externs r).below in
      let b = numbered from target.below in
      let e = own_named a.externs path m in
      let own : f.is_among (p.TARGET_SCOPE ∷ []) target.production ≡ false = ap (f.is_among (p.TARGET_SCOPE ∷ [])) e in
      let inside : f.parts (p.TARGET_SCOPE ∷ []) b ≡ [] =
      searches.nothing (p.TARGET_SCOPE ∷ []) (body_of target.production) (ap (λ (q : ℕ). cant_stand (p.TARGET_SCOPE ∷ []) (body_of q)) e ∙ no_scope_in_name) target.below grown.1.2.2.1 from in
      ap f.is_any_part
      (searches.parts (p.TARGET_SCOPE ∷ []) 2 (body_of p.METHOD_REF) no_scope_before (method_ref a.externs r).below grown.1 at
      ∙ (ap (λ (c : Bool). (if c then f.part target.production b ∷ [] else f.parts (p.TARGET_SCOPE ∷ []) b) ++ []) own ∙ ap (λ (ps : List f.Part). ps ++ []) inside))

-- ---- the method that is meant

-- a method with this name and signature
meant_itself : (s : Source) (x : Around) (reference g : f.Forest) (m : Method) → reference_name s x reference ≡ m.name → reference_signature s x reference ≡ m.sig → method_name s g ≡ m.name →
    method_signature s (in_method x g) g ≡ m.sig → is_meant s x reference g ≡ true
meant_itself s x reference g m called sig own_name own_sig =
    (λ i. bytes_eq (own_name i) (called i) && is_same_signature (own_sig i) (sig i)) ∙ both (bytes_eq m.name m.name) (is_same_signature m.sig m.sig) ((bytes_eq-Decides m.name m.name).1 refl) (signature_itself m.sig)

module _ (s : Source) (x : Around) (reference : f.Forest) (m : Method) (called : reference_name s x reference ≡ m.name) (sig : reference_signature s x reference ≡ m.sig) where
  abbrev whole : f.Forest → Bool
  whole g = is_method_unbroken s x g

  -- it is one of these, where its place among them is this
  one_there : (gs : List f.Forest) (ms : List Method) → AreMethods s x gs ms → list_all whole gs ≡ true → (k : ℕ) → slice_get ms k ≡ Some m → list_any (is_meant s x reference) (filter whole gs) ≡ true
  one_there [] [] r u zero e = absurd cc
  one_there [] [] r u (suc k) e = absurd cc
  one_there [] (y ∷ ms) r u k e = absurd r
  one_there (g ∷ gs) [] r u k e = absurd r
  one_there (g ∷ gs) (y ∷ ms) r u zero e =
      let us = and_parts (whole g) (list_all whole gs) u in
      let same : y ≡ m = cc in
      let own = meant_itself s x reference g m called sig (r.0 ∙ ap (λ (z : Method). z.name) same) (r.1 ∙ ap (λ (z : Method). z.sig) same) in
      ap (λ (c : Bool). list_any (is_meant s x reference) (cond c (g ∷ filter whole gs) (filter whole gs))) us.0 ∙ ap (λ (c : Bool). c || list_any (is_meant s x reference) (filter whole gs)) own
  one_there (g ∷ gs) (y ∷ ms) r u (suc k) e =
      let us = and_parts (whole g) (list_all whole gs) u in
      ap (λ (c : Bool). list_any (is_meant s x reference) (cond c (g ∷ filter whole gs) (filter whole gs))) us.0
      ∙ or_else (is_meant s x reference g) (list_any (is_meant s x reference) (filter whole gs)) (one_there gs ms r.2 us.1 k e)

-- ---- lines

less_by_one : (j k : ℕ) → suc j < suc k → j < k
less_by_one j k h = omega arith

none_below : (j : ℕ) → j < 0 → ⊥
none_below j h = absurd (omega arith)

got : (ms : List Method) (k : ℕ) → k < length ms → (m : Method) × (slice_get ms k ≡ Some m)
got [] k h = absurd (none_below k h)
got (m ∷ ms) zero h = (m, refl)
got (m ∷ ms) (suc k) h = got ms k (less_by_one k (length ms) h)

get_passes : (t : Method → Bool) (ms : List Method) (k : ℕ) (m : Method) → list_all t ms ≡ true → slice_get ms k ≡ Some m → t m ≡ true
get_passes t [] zero m h e = absurd cc
get_passes t [] (suc k) m h e = absurd cc
get_passes t (y ∷ ms) zero m h e = let same : y ≡ m = cc in subst (λ z. t z ≡ true) same (and_parts (t y) (list_all t ms) h).0
get_passes t (y ∷ ms) (suc k) m h e = get_passes t ms k m (and_parts (t y) (list_all t ms) h).1 e

abbrev pub accessor_parts : List ℕ
accessor_parts =
    p.PROPERTY_ITEM_GET ∷ p.PROPERTY_ITEM_SET ∷ p.PROPERTY_ITEM_OTHER ∷ p.EVENT_ITEM_ADDON ∷ p.EVENT_ITEM_REMOVEON ∷ p.EVENT_ITEM_FIRE
    ∷ p.EVENT_ITEM_OTHER ∷ []

pub record LineLaws : Type 0 where
  pub unasked : UnaskedBreakNothing
  pub alone : NumbersAlone
  pub rows : RowsBreakNothing
  pub segments : SegmentsAreRead
  pub pieces : PiecesAreRead
  pub searches : SearchesPass
  pub stand : ReferencesStand
  pub readable : FormedAreReadable
  pub read : FormedAreRead
  pub references : ReferencesBreakNothing
  pub plain : PlainReferencesHaveNone
  pub listings : ListingsAreRead

module _ (laws : LineLaws) (s : Source) (a : Assembly) (listed : IsListingOf s a) (x : Around) (path : List TypeId) (ms : List Method) (around : IsInType s a x path ms) where
  abbrev gs : List f.Forest
  gs = method_forests (members x.class)

  -- each of these names a method of the type
  abbrev pub AllDeclared : List f.Part → Type 0
  AllDeclared [] = ⊤
  AllDeclared (q ∷ qs) = (accessor_undeclared_of s x gs q ≡ []) × AllDeclared qs

  pub declared_behind : (ps qs : List f.Part) → AllDeclared ps → AllDeclared qs → AllDeclared (ps ++ qs)
  declared_behind [] qs h k = k
  declared_behind (q ∷ ps) qs h k = (h.0, declared_behind ps qs h.1 k)

  pub none_undeclared : (ps : List f.Part) → AllDeclared ps → flat_map (accessor_undeclared_of s x gs) ps ≡ []
  none_undeclared [] h = refl
  none_undeclared (q ∷ ps) h = ap (λ (ks : List ℕ). ks ++ flat_map (accessor_undeclared_of s x gs) ps) h.0 ∙ none_undeclared ps h.1

  -- a production of accessors
  record IsAccessor (q : ℕ) : Type 0 where
    among : f.is_among accessor_parts q ≡ true
    own : (b : f.Forest) → generic_arguments_token (f.the p.METHOD_REF b) ≡ [] → BreaksNothing s (record { production = q; below = b; around = entered s x q b })
    same : (b : f.Forest) → entered s x q b ≡ x

  gets : IsAccessor p.PROPERTY_ITEM_GET
  gets = record { among = refl; own = λ b e. laws.alone s _ refl (simp e); same = λ b. refl }

  sets : IsAccessor p.PROPERTY_ITEM_SET
  sets = record { among = refl; own = λ b e. laws.alone s _ refl (simp e); same = λ b. refl }

  others : IsAccessor p.PROPERTY_ITEM_OTHER
  others = record { among = refl; own = λ b e. laws.alone s _ refl (simp e); same = λ b. refl }

  adds : IsAccessor p.EVENT_ITEM_ADDON
  adds = record { among = refl; own = λ b e. laws.alone s _ refl (simp e); same = λ b. refl }

  removes : IsAccessor p.EVENT_ITEM_REMOVEON
  removes = record { among = refl; own = λ b e. laws.alone s _ refl (simp e); same = λ b. refl }

  fires : IsAccessor p.EVENT_ITEM_FIRE
  fires = record { among = refl; own = λ b e. laws.alone s _ refl (simp e); same = λ b. refl }

  more : IsAccessor p.EVENT_ITEM_OTHER
  more = record { among = refl; own = λ b e. laws.alone s _ refl (simp e); same = λ b. refl }

  -- the reference of a method of the type is to one of its methods
  declared_at : (m : Method) (k : ℕ) → slice_get ms k ≡ Some m → (at : ℕ) → Agrees s at (method_ref a.externs (own_reference path m)).below →
      (is_this_class s x (numbered at (method_ref a.externs (own_reference path m)).below) && is_one_of s x gs (numbered at (method_ref a.externs (own_reference path m)).below)) ≡ true
  declared_at m k e at ag =
      let r = own_reference path m in
      let has = around.has in
      let ok = reference_ok a path has.named has.inside m (get_passes (is_head a) ms k m has.heads e) in
      let knows = laws.listings.knows s a listed in
      let reference = numbered at (method_ref a.externs r).below in
      let whole_is = laws.read.methods s x a knows r ok.0 ok.1 at ag in
      let known : has_known_scope s reference ≡ true =
      ap (λ (c : Bool). if c then is_some (scope_named s (scope_text s (f.leaf_at 0 (f.child (p.TARGET_SCOPE ∷ []) reference)))) else true) (no_scope laws.searches laws.stand laws.readable a s knows path m ok.0 ok.1 at) in
      let here : names_this_class s x reference ≡ true =
      ap (λ (z : MethodRef). is_class_named x.path (out-Owner z.owner)) whole_is
      ∙ (ap (is_class_named x.path) (o.outs-Name (record { scope = Here; path = path })) ∙ (ap (is_path path) around.path_is ∙ path_itself path)) in
      let one : is_one_of s x gs reference ≡ true =
      one_there s x reference m (ap (λ (z : MethodRef). z.name) whole_is) (ap (λ (z : MethodRef). z.sig) whole_is) gs ms has.read around.unbroken k e in
      both (is_this_class s x reference) (is_one_of s x gs reference) (both (has_known_scope s reference) (names_this_class s x reference) known here) one

  abbrev LineRight : Item → Type 0
  LineRight i = (at : ℕ) → Agrees s at i.below → EachBreaksNothing s (nodes_in s x (f.branch i.production (numbered at i.below) f.none)) × AllDeclared (pieces_at accessor_parts at (i ∷ []))

  one_right : (q w : ℕ) → IsAccessor q → (m : Method) (k : ℕ) → slice_get ms k ≡ Some m → LineRight (record { production = q; below = line w (put (method_ref a.externs (own_reference path m)) none) })
  unfolding method_ref
  one_right q w fit m k e at ag =
      let r = own_reference path m in
      let has = around.has in
      let ok = reference_ok a path has.named has.inside m (get_passes (is_head a) ms k m has.heads e) in
      let b = numbered at (line w (put (method_ref a.externs r) none)) in
      let reference = numbered (suc at) (method_ref a.externs r).below in
      let none_given : generic_arguments_token (f.the p.METHOD_REF b) ≡ [] = laws.plain s a listed r ok.0 ok.1 refl (suc at) in
      let inside : EachBreaksNothing s (nodes_in s x b) = laws.references.methods s a listed x r ok.0 ok.1 (suc at) ag.1.0 f.none tt in
      let declared : accessor_undeclared_of s x gs (f.part q b) ≡ [] =
      ap (λ (c : Bool). if is_reference_unbroken s x reference && not c then at ∷ [] else []) (declared_at m k e (suc at) ag.1.0)
      ∙ ap (λ (c : Bool). if c then at ∷ [] else []) (and_false (is_reference_unbroken s x reference)) in (
        laws.unasked.branch s x q b f.none (fit.own b none_given) (subst (λ (z : Around). EachBreaksNothing s (nodes_in s z b)) (sym (fit.same b)) inside) tt,
        subst (λ (c : Bool). AllDeclared ((if c then f.part q b ∷ [] else f.parts accessor_parts b) ++ [])) (sym fit.among) (declared, tt),
      )

  abbrev RowRight : List Item → Type 0
  RowRight is = (at : ℕ) → ItemsAgree s at is → ItemsBreakNothing s x at is × AllDeclared (pieces_at accessor_parts at is)

  right_behind : (is js : List Item) → RowRight is → RowRight js → RowRight (is ++ js)
  right_behind is js h k at ag =
      let parts = laws.segments.agree s at is js ag in
      let first = h at parts.0 in
      let second = k (end_of at is) parts.1 in (
        laws.rows.joined s x at is js first.0 second.0,
        subst AllDeclared (sym (laws.pieces.joined accessor_parts at is js)) (declared_behind (pieces_at accessor_parts at is) (pieces_at accessor_parts (end_of at is) js) first.1 second.1),
      )

  -- the method of an accessor, where it has one
  abbrev IsOwn : Option Method → Type 0
  IsOwn None = ⊤
  IsOwn (Some m) = (k : ℕ) × (slice_get ms k ≡ Some m)

  line_right : (q w : ℕ) → IsAccessor q → (m : Option Method) → IsOwn m → RowRight (accessor_line a.externs q w path m)
  line_right q w fit None own at ag = (tt, tt)
  line_right q w fit (Some m) own at ag = let one = one_right q w fit m own.0 own.1 at ag.0 in ((one.0, tt), one.1)

  accessor_right : (other : ℕ) → IsAccessor other → (y : Accessor) → is_accessor_of (length ms) y ≡ true → RowRight (written.accessor a.externs other path ms y)
  accessor_right other fit y h = by (nat_eq y.kind 1) (nat_eq y.kind 2) (nat_eq y.kind 8) (nat_eq y.kind 0x10) (nat_eq y.kind 0x20)
    where
      its : IsOwn (slice_get ms y.method)
      its = let g = got ms y.method (ltb-true y.method (length ms) h) in subst IsOwn (sym g.1) (y.method, g.1)

      by : (b c d e g : Bool) → RowRight
          (if b then accessor_line a.externs p.PROPERTY_ITEM_SET word.DOT_SET path (slice_get ms y.method)
          else if c then accessor_line a.externs p.PROPERTY_ITEM_GET word.DOT_GET path (slice_get ms y.method)
          else if d then accessor_line a.externs p.EVENT_ITEM_ADDON word.DOT_ADDON path (slice_get ms y.method)
          else if e then accessor_line a.externs p.EVENT_ITEM_REMOVEON word.DOT_REMOVEON path (slice_get ms y.method)
          else if g then accessor_line a.externs p.EVENT_ITEM_FIRE word.DOT_FIRE path (slice_get ms y.method)
          else accessor_line a.externs other word.DOT_OTHER path (slice_get ms y.method))
      by true c d e g = line_right p.PROPERTY_ITEM_SET word.DOT_SET sets (slice_get ms y.method) its
      by false true d e g = line_right p.PROPERTY_ITEM_GET word.DOT_GET gets (slice_get ms y.method) its
      by false false true e g = line_right p.EVENT_ITEM_ADDON word.DOT_ADDON adds (slice_get ms y.method) its
      by false false false true g = line_right p.EVENT_ITEM_REMOVEON word.DOT_REMOVEON removes (slice_get ms y.method) its
      by false false false false true = line_right p.EVENT_ITEM_FIRE word.DOT_FIRE fires (slice_get ms y.method) its
      by false false false false false = line_right other word.DOT_OTHER fit (slice_get ms y.method) its

  accessors_right : (other : ℕ) → IsAccessor other → (ys : List Accessor) → list_all (is_accessor_of (length ms)) ys ≡ true → RowRight (flat_map (written.accessor a.externs other path ms) ys)
  accessors_right other fit [] h = λ at ag. (tt, tt)
  accessors_right other fit (y ∷ ys) h =
      let hs = and_parts (is_accessor_of (length ms) y) (list_all (is_accessor_of (length ms)) ys) h in
      right_behind (written.accessor a.externs other path ms y) (flat_map (written.accessor a.externs other path ms) ys) (accessor_right other fit y hs.0) (accessors_right other fit ys hs.1)

  -- the accessors of a property, and those of an event
  pub property_accessors : (ys : List Accessor) → list_all (is_accessor_of (length ms)) ys ≡ true → (at : ℕ) → ItemsAgree s at (flat_map (written.accessor a.externs p.PROPERTY_ITEM_OTHER path ms) ys) →
      ItemsBreakNothing s x at (flat_map (written.accessor a.externs p.PROPERTY_ITEM_OTHER path ms) ys) × AllDeclared (pieces_at accessor_parts at (flat_map (written.accessor a.externs p.PROPERTY_ITEM_OTHER path ms) ys))
  property_accessors ys h = accessors_right p.PROPERTY_ITEM_OTHER others ys h

  pub event_accessors : (ys : List Accessor) → list_all (is_accessor_of (length ms)) ys ≡ true → (at : ℕ) → ItemsAgree s at (flat_map (written.accessor a.externs p.EVENT_ITEM_OTHER path ms) ys) →
      ItemsBreakNothing s x at (flat_map (written.accessor a.externs p.EVENT_ITEM_OTHER path ms) ys) × AllDeclared (pieces_at accessor_parts at (flat_map (written.accessor a.externs p.EVENT_ITEM_OTHER path ms) ys))
  event_accessors ys h = accessors_right p.EVENT_ITEM_OTHER more ys h
