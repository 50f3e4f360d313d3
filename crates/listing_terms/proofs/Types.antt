-- Types and owners are read back.
use Rattle.std.proofs.Common.{◌≡◌, ℕ, suc, ◌+◌, ◌<◌, ◌^◌, ◌&&◌, nat_lt, Bool, true, false, if◌then◌else◌, List, [], ◌∷◌, ◌++◌, map, length, Option, None, Some, refl, ap, sym, subst, ◌∙◌, append-nil, arith}
use Rattle.std.proofs.lemmas.Bool.{and_parts, false≢true, ltb-true}
use Rattle.std.specs.List.{list_all}
use Rattle.il_lexer.specs.declared.word.TheConstants as word
use Rattle.ilasm_grammar.specs.declared.productions.TheConstants as p
use Rattle.type_terms.specs.declared.name.Scope as scope
use Rattle.type_terms.specs.declared.name.TypeId.{TypeId}
use Rattle.type_terms.specs.declared.name.TypeName.{TypeName}
use Rattle.type_terms.specs.declared.term.Primitive as prim
use Rattle.type_terms.specs.declared.term.Owner.{Owner, fold-Owner, roll-Owner}
use Rattle.type_terms.specs.declared.term.Owner.TheVariants as o
use Rattle.type_terms.specs.declared.term.Owner.TheOpen as layer
use Rattle.type_terms.specs.declared.term.SigType.{SigType, fold-SigType, roll-SigType}
use Rattle.type_terms.specs.declared.term.SigType.TheVariants as t
use Rattle.type_terms.proofs.Layers.{OwnerWith, TypeWith, owner_values, type_values, by_layers, owner_by_layers, fold-Name, fold-Spec, fold-Prim, fold-Class, fold-Value, fold-Inst, fold-Var, fold-MVar, fold-SzArray, fold-Array, fold-ByRef, fold-Pointer, fold-Mod, fold-Pinned}
use Rattle.assembly_tree.specs.WellFormedTerms.{is_shape, is_variable}
use Rattle.assembly_tree.specs.declared.assembly.ExternAssembly.{ExternAssembly}
use Rattle.source_model.specs.Forest as f
use Rattle.source_model.specs.Names.{type_name}
use Rattle.source_model.specs.Nodes.{Around}
use Rattle.source_model.specs.Shapes.{natural}
use Rattle.source_model.specs.Source.{Source}
use Rattle.source_model.specs.Types.{base_type, named_type, suffixes, suffix, first_owner, types_in, type_of, suffixed, owners_in}
use Rattle.source_model.specs.Values.{integer}
use Rattle.listing_leaves.specs.Numbers as numbers
use Rattle.listing_model.specs.Shown.{Shown, none, Item, item, w, optional, size, star_production, star_below, behind_comma}
use Rattle.listing_model.specs.Types.{path_below, slash_name, primitive, variable, TypeShown, based, with_suffix, of_shown, type_item, type_args, brackets, dimensions, shape, modifier, name_in, named, owner_step, type_step, shown_type, owner}
use Rattle.listing_reading.specs.Laws.{RowsAreRead}
use Rattle.listing_reading.specs.Numbered.{numbered, Agrees}
use Rattle.listing_reading.specs.Rows.{AreAmong}
use Rattle.listing_values.specs.Laws.{NamesAreRead, NumbersAreRead}
use Rattle.listing_terms.specs.Laws.{TermsAreRead}
use Rattle.listing_terms.specs.Readable as may
use Rattle.listing_terms.specs.Readable.{KnowsAssemblies, is_scope_named, is_path_named, is_name_readable, is_type_readable, is_owner_readable}
use Rattle.listing_terms.proofs.Names.{AllAgree, row_agrees, name_read}
use Rattle.listing_terms.proofs.Shapes.{array_read}

-- ---- names hold no types

module _ (s : Source) (a : Around) where
  none_in_slashes : (ids : List TypeId) (at : ℕ) (after : f.Forest) →
      types_in s a (f.branch (star_production p.SLASH_NAME_STAR_MORE p.SLASH_NAME_STAR_END (map slash_name ids)) (numbered at (star_below p.SLASH_NAME_STAR_MORE p.SLASH_NAME_STAR_END (map slash_name ids))) after)
      ≡ types_in s a after
  unfolding types_in
  none_in_slashes [] at after = refl
  none_in_slashes (id ∷ ids) at after = ap (λ ts. ts ++ types_in s a after) (none_in_slashes ids (at + size (slash_name id).below) f.none)

  none_in_path : (ids : List TypeId) (at : ℕ) → types_in s a (numbered at (path_below ids)) ≡ []
  unfolding types_in
  none_in_path [] at = refl
  none_in_path (id ∷ ids) at = none_in_slashes ids (suc at) f.none

  none_in_name : (externs : List ExternAssembly) (sc : scope.Scope) (ids : List TypeId) (at : ℕ) (after : f.Forest) →
      types_in s a (f.branch (name_in externs sc ids).production (numbered at (name_in externs sc ids).below) after) ≡ types_in s a after
  unfolding types_in
  none_in_name externs scope.TheVariants.Here ids at after = ap (λ ts. (ts ++ []) ++ types_in s a after) (none_in_path ids at)
  none_in_name externs (scope.TheVariants.Extern k) ids at after = ap (λ ts. (ts ++ []) ++ types_in s a after) (none_in_path ids (suc at))

-- ---- suffixes

row_end : ℕ → List Item → ℕ
row_end at [] = at
row_end at (i ∷ is) = row_end (at + size i.below) is

agree_first : (s : Source) (is : List Item) (i : Item) (at : ℕ) → AllAgree s at (is ++ i ∷ []) → AllAgree s at is
agree_first s [] i at h = tt
agree_first s (x ∷ xs) i at h = (h.0, agree_first s xs i (at + size x.below) h.1)

agree_last : (s : Source) (is : List Item) (i : Item) (at : ℕ) → AllAgree s at (is ++ i ∷ []) → Agrees s (row_end at is) i.below
unfolding row_end
agree_last s [] i at h = h.0
agree_last s (x ∷ xs) i at h = agree_last s xs i (at + size x.below) h.1

among_more : (is : List Item) (i : Item) → AreAmong suffixes is → f.is_among suffixes i.production ≡ true → AreAmong suffixes (is ++ i ∷ [])
among_more [] i h k = (k, tt)
among_more (x ∷ xs) i h k = (h.0, among_more xs i h.1 k)

-- the type with a suffix at this place
abbrev around_by : Source → Around → ℕ → Item → SigType → SigType
around_by s a at i u = suffix s i.production (numbered at i.below) (owners_in s a (numbered at i.below)) u

-- the type with all of a row
abbrev wound : Source → Around → ℕ → List Item → SigType → SigType
wound s a at [] u = u
wound s a at (i ∷ is) u = wound s a (at + size i.below) is (around_by s a at i u)

wound_is : (s : Source) (a : Around) (is : List Item) → AreAmong suffixes is → (at : ℕ) (u : SigType) →
    suffixed s a (f.branch (star_production p.TYPE_SUFFIX_STAR_MORE p.TYPE_SUFFIX_STAR_END is) (numbered at (star_below p.TYPE_SUFFIX_STAR_MORE p.TYPE_SUFFIX_STAR_END is)) f.none) u
    ≡ wound s a at is u
unfolding suffixed
wound_is s a [] h at u = refl
wound_is s a (i ∷ is) h at u =
    let next = at + size i.below in
    let row = f.branch (star_production p.TYPE_SUFFIX_STAR_MORE p.TYPE_SUFFIX_STAR_END is) (numbered next (star_below p.TYPE_SUFFIX_STAR_MORE p.TYPE_SUFFIX_STAR_END is)) f.none in
    ap (λ c. suffixed s a row (if c then around_by s a at i u else suffixed s a (numbered at i.below) u)) h.0
    ∙ wound_is s a is h.1 next (around_by s a at i u)

wound_more : (s : Source) (a : Around) (is : List Item) (i : Item) (at : ℕ) (u : SigType) →
    wound s a at (is ++ i ∷ []) u ≡ around_by s a (row_end at is) i (wound s a at is u)
unfolding row_end
wound_more s a [] i at u = refl
wound_more s a (x ∷ xs) i at u = wound_more s a xs i (at + size x.below) (around_by s a at x u)

-- ---- types as they are written

-- a written type is read as this one
pub record Reads (s : Source) (a : Around) (g : TypeShown) (u : SigType) : Type 0 where
  pub among : AreAmong suffixes g.suffixes
  pub is : (at : ℕ) → Agrees s at g.base.below → AllAgree s (at + size g.base.below) g.suffixes →
      wound s a (at + size g.base.below) g.suffixes (base_type s a g.base.production (numbered at g.base.below) (types_in s a (numbered at g.base.below))) ≡ u

module _ (s : Source) (a : Around) where
  based_reads : (i : Item) (u : SigType) →
      ((at : ℕ) → Agrees s at i.below → base_type s a i.production (numbered at i.below) (types_in s a (numbered at i.below)) ≡ u) → Reads s a (based i) u
  based_reads i u h = record { among = tt; is = λ at ag all. h at ag }

  suffix_reads : (g : TypeShown) (u : SigType) (i : Item) (v : SigType) → Reads s a g u → f.is_among suffixes i.production ≡ true →
      ((at : ℕ) → Agrees s at i.below → around_by s a at i u ≡ v) → Reads s a (with_suffix g i) v
  suffix_reads g u i v r k h = record {
    among = among_more g.suffixes i r.among k;
    is = λ at ag all.
        let from = at + size g.base.below in
        wound_more s a g.suffixes i from (base_type s a g.base.production (numbered at g.base.below) (types_in s a (numbered at g.base.below)))
        ∙ (ap (around_by s a (row_end from g.suffixes) i) (r.is at ag (agree_first s g.suffixes i from all))
        ∙ h (row_end from g.suffixes) (agree_last s g.suffixes i from all));
  }

  whole_reads : (g : TypeShown) (u : SigType) → Reads s a g u → (at : ℕ) → Agrees s at (of_shown g) → type_of s a (numbered at (of_shown g)) ≡ u
  unfolding type_of
  whole_reads g u r at ag =
      let from = at + size g.base.below in
      let base = base_type s a g.base.production (numbered at g.base.below) (types_in s a (numbered at g.base.below)) in
      wound_is s a g.suffixes r.among from base
      ∙ r.is at ag.0 (row_agrees s p.TYPE_SUFFIX_STAR_MORE p.TYPE_SUFFIX_STAR_END g.suffixes from ag.1.0)

  -- ---- bases

  base_read : (x : prim.Primitive) (at : ℕ) → base_type s a (primitive x).production (numbered at (primitive x).below) (types_in s a (numbered at (primitive x).below)) ≡ t.Prim x
  base_read prim.TheVariants.Void at = refl
  base_read prim.TheVariants.Bool at = refl
  base_read prim.TheVariants.Char at = refl
  base_read prim.TheVariants.Str at = refl
  base_read prim.TheVariants.Object at = refl
  base_read prim.TheVariants.TypedRef at = refl
  base_read prim.TheVariants.R4 at = refl
  base_read prim.TheVariants.R8 at = refl
  base_read prim.TheVariants.NInt at = refl
  base_read prim.TheVariants.NUint at = refl
  base_read prim.TheVariants.I1 at = refl
  base_read prim.TheVariants.I2 at = refl
  base_read prim.TheVariants.I4 at = refl
  base_read prim.TheVariants.I8 at = refl
  base_read prim.TheVariants.U1 at = refl
  base_read prim.TheVariants.U2 at = refl
  base_read prim.TheVariants.U4 at = refl
  base_read prim.TheVariants.U8 at = refl

small_variable : (k : ℕ) → is_variable k ≡ true → k < 2 ^ 128
small_variable k h = let low = ltb-true k 65536 h in omega arith

module _ (laws : NumbersAreRead) (s : Source) (a : Around) where
  number_read : (k : ℕ) → is_variable k ≡ true → (text : List ℕ) → text ≡ numbers.natural k → natural (integer text) ≡ k
  number_read k h text e = ap (λ x. natural (integer x)) e ∙ ap natural (laws.natural k (small_variable k h))

  var_read : (k : ℕ) → is_variable k ≡ true → (at : ℕ) → Agrees s at (variable p.TYPE_BASE_BANG word.BANG k).below →
      base_type s a p.TYPE_BASE_BANG (numbered at (variable p.TYPE_BASE_BANG word.BANG k).below) (types_in s a (numbered at (variable p.TYPE_BASE_BANG word.BANG k).below)) ≡ t.Var k
  var_read k h at ag = ap (λ n. t.Var n) (number_read k h _ ag.1.0.0.text)

  mvar_read : (k : ℕ) → is_variable k ≡ true → (at : ℕ) → Agrees s at (variable p.TYPE_BASE_DOUBLE_BANG word.DOUBLE_BANG k).below →
      base_type s a p.TYPE_BASE_DOUBLE_BANG (numbered at (variable p.TYPE_BASE_DOUBLE_BANG word.DOUBLE_BANG k).below)
      (types_in s a (numbered at (variable p.TYPE_BASE_DOUBLE_BANG word.DOUBLE_BANG k).below))
      ≡ t.MVar k
  mvar_read k h at ag = ap (λ n. t.MVar n) (number_read k h _ ag.1.0.0.text)

module _ (names : NamesAreRead) (laws : NumbersAreRead) (rows : RowsAreRead) (s : Source) (a : Around) (externs : List ExternAssembly) (knows : KnowsAssemblies s externs) where
  name_is : (n : TypeName) → is_name_readable externs n ≡ true → (at : ℕ) → Agrees s at (name_in externs n.scope n.path).below → (after : f.Forest) →
      type_name s (f.branch (name_in externs n.scope n.path).production (numbered at (name_in externs n.scope n.path).below) after) ≡ n
  name_is n h at ag after =
      let hs = and_parts (is_scope_named externs n.scope) (is_path_named n.path) h in name_read names rows s externs knows n.scope n.path hs.0 hs.1 at ag after

  -- `class` or `valuetype` with a name, and the arguments behind it
  named_read : (value : Bool) (n : TypeName) (args : Option Shown) (us : List SigType) → is_name_readable externs n ≡ true → (at : ℕ) →
      Agrees s at (named externs value n args).below →
      ((next : ℕ) → Agrees s next (optional p.TYPE_ARGS_OPT_SOME p.TYPE_ARGS_OPT_NONE args none) →
      types_in s a (numbered next (optional p.TYPE_ARGS_OPT_SOME p.TYPE_ARGS_OPT_NONE args none)) ≡ us) →
      base_type s a (named externs value n args).production (numbered at (named externs value n args).below) (types_in s a (numbered at (named externs value n args).below))
      ≡ named_type value n us
  unfolding types_in
  named_read true n args us h at ag k =
      let next = suc at + size (name_in externs n.scope n.path).below in
      let rest = numbered next (optional p.TYPE_ARGS_OPT_SOME p.TYPE_ARGS_OPT_NONE args none) in
      let whole = f.branch (name_in externs n.scope n.path).production (numbered (suc at) (name_in externs n.scope n.path).below) rest in
      ap (λ m. named_type true m (types_in s a whole)) (name_is n h (suc at) ag.1.0 rest)
      ∙ ap (named_type true n) (none_in_name s a externs n.scope n.path (suc at) rest ∙ k next ag.1.1)
  named_read false n args us h at ag k =
      let next = suc at + size (name_in externs n.scope n.path).below in
      let rest = numbered next (optional p.TYPE_ARGS_OPT_SOME p.TYPE_ARGS_OPT_NONE args none) in
      let whole = f.branch (name_in externs n.scope n.path).production (numbered (suc at) (name_in externs n.scope n.path).below) rest in
      ap (λ m. named_type false m (types_in s a whole)) (name_is n h (suc at) ag.1.0 rest)
      ∙ ap (named_type false n) (none_in_name s a externs n.scope n.path (suc at) rest ∙ k next ag.1.1)

  no_args : (next : ℕ) → types_in s a (numbered next (optional p.TYPE_ARGS_OPT_SOME p.TYPE_ARGS_OPT_NONE None none)) ≡ []
  unfolding types_in
  no_args next = refl

  -- ---- layers

  abbrev types : SigType → TypeShown
  types = fold-SigType Item TypeShown (owner_step externs) (type_step externs)

  abbrev owners : Owner → Item
  owners = fold-Owner Item TypeShown (owner_step externs) (type_step externs)

  abbrev ok : SigType → Bool
  ok = fold-SigType Bool Bool (may.owner_step externs) (may.type_step externs)

  abbrev owner_ok : Owner → Bool
  owner_ok = fold-Owner Bool Bool (may.owner_step externs) (may.type_step externs)

  abbrev OwnerReads : Item → Owner → Type 0
  OwnerReads i u = (at : ℕ) → Agrees s at i.below → (after : f.Forest) → owners_in s a (f.branch i.production (numbered at i.below) after) ≡ u ∷ owners_in s a after

  abbrev Q : SigType → Type 0
  Q u = ok u ≡ true → Reads s a (types u) u

  abbrev P : Owner → Type 0
  P u = owner_ok u ≡ true → OwnerReads (owners u) u

  abbrev values : List (TypeWith P Q) → List SigType
  values xs = map (λ (x : TypeWith P Q). x.0) xs

  args_row : (xs : List (TypeWith P Q)) → list_all (λ x. x) (map ok (values xs)) ≡ true → (at : ℕ) (after : f.Forest) →
      Agrees s at (star_below p.COMMA_TYPE_STAR_MORE p.COMMA_TYPE_STAR_END (map (behind_comma p.COMMA_TYPE) (map type_item (map types (values xs))))) →
      types_in s a
      (f.branch (star_production p.COMMA_TYPE_STAR_MORE p.COMMA_TYPE_STAR_END (map (behind_comma p.COMMA_TYPE) (map type_item (map types (values xs)))))
      (numbered at (star_below p.COMMA_TYPE_STAR_MORE p.COMMA_TYPE_STAR_END (map (behind_comma p.COMMA_TYPE) (map type_item (map types (values xs))))))
      after)
      ≡ values xs ++ types_in s a after
  unfolding types_in
  args_row [] h at after ag = refl
  args_row (x ∷ xs) h at after ag =
      let hs = and_parts (ok x.0) (list_all (λ y. y) (map ok (values xs))) h in
      let items = map (behind_comma p.COMMA_TYPE) (map type_item (map types (values xs))) in
      let next = at + size (behind_comma p.COMMA_TYPE (type_item (types x.0))).below in
      let row = f.branch (star_production p.COMMA_TYPE_STAR_MORE p.COMMA_TYPE_STAR_END items) (numbered next (star_below p.COMMA_TYPE_STAR_MORE p.COMMA_TYPE_STAR_END items)) f.none in
      ap (λ u. u ∷ (types_in s a row ++ types_in s a after)) (whole_reads s a (types x.0) x.0 (x.1 hs.0) (suc at) ag.0.1.0)
      ∙ ap (λ us. x.0 ∷ (us ++ types_in s a after)) (args_row xs hs.1 next f.none ag.1.0 ∙ append-nil (values xs))

  args_read : (x : TypeWith P Q) (xs : List (TypeWith P Q)) → list_all (λ y. y) (map ok (values (x ∷ xs))) ≡ true → (next : ℕ) →
      Agrees s next (optional p.TYPE_ARGS_OPT_SOME p.TYPE_ARGS_OPT_NONE (Some (type_args (map types (values (x ∷ xs))))) none) →
      types_in s a (numbered next (optional p.TYPE_ARGS_OPT_SOME p.TYPE_ARGS_OPT_NONE (Some (type_args (map types (values (x ∷ xs))))) none)) ≡ values (x ∷ xs)
  unfolding types_in
  args_read x xs h next ag =
      let hs = and_parts (ok x.0) (list_all (λ y. y) (map ok (values xs))) h in
      let items = map (behind_comma p.COMMA_TYPE) (map type_item (map types (values xs))) in
      let from = suc next + size (of_shown (types x.0)) in
      let last = numbered (from + size (star_below p.COMMA_TYPE_STAR_MORE p.COMMA_TYPE_STAR_END items)) (w word.GREATER none) in
      let row = f.branch (star_production p.COMMA_TYPE_STAR_MORE p.COMMA_TYPE_STAR_END items) (numbered from (star_below p.COMMA_TYPE_STAR_MORE p.COMMA_TYPE_STAR_END items)) last in
      ap (λ u. ((u ∷ types_in s a row) ++ []) ++ []) (whole_reads s a (types x.0) x.0 (x.1 hs.0) (suc next) ag.0.0.1.0)
      ∙ (ap (λ us. ((x.0 ∷ us) ++ []) ++ []) (args_row xs hs.1 from last ag.0.0.1.1.0 ∙ append-nil (values xs))
      ∙ (append-nil ((x.0 ∷ values xs) ++ []) ∙ append-nil (x.0 ∷ values xs)))

  instance_read : (v : Bool) (n : TypeName) (args : List (TypeWith P Q)) → nat_lt 0 (length (map ok (values args))) ≡ true →
      list_all (λ y. y) (map ok (values args)) ≡ true → is_name_readable externs n ≡ true → (at : ℕ) →
      Agrees s at (named externs v n (Some (type_args (map types (values args))))).below →
      base_type s a (named externs v n (Some (type_args (map types (values args))))).production
      (numbered at (named externs v n (Some (type_args (map types (values args))))).below)
      (types_in s a (numbered at (named externs v n (Some (type_args (map types (values args))))).below))
      ≡ t.Inst v n (values args)
  instance_read v n [] l h k at ag = absurd (false≢true l)
  instance_read v n (x ∷ xs) l h k at ag = named_read v n (Some (type_args (map types (values (x ∷ xs))))) (values (x ∷ xs)) k at ag (args_read x xs h)

  -- the owner behind `modreq (` and `modopt (`
  modified : (production k : ℕ) (i : Item) (u : Owner) → OwnerReads i u → (at : ℕ) → Agrees s at (modifier production k i).below →
      first_owner (owners_in s a (numbered at (modifier production k i).below)) ≡ u
  unfolding owners_in
  modified production k i u h at ag =
      ap first_owner (h (suc (suc at)) ag.1.1.0 (numbered (suc (suc at) + size i.below) (w word.CLOSE_PAREN none)))

  type_made : (l : layer.SigType-F (OwnerWith P Q) (TypeWith P Q)) → Q (roll-SigType (type_values P Q l))
  type_made (layer.Prim x) = subst Q (sym (t.rolls-Prim x))
      (λ h. subst (λ g. Reads s a g (t.Prim x)) (sym (fold-Prim Item TypeShown (owner_step externs) (type_step externs) x))
      (based_reads s a (primitive x) (t.Prim x) (λ at ag. base_read s a x at)))
  type_made (layer.Class n) = subst Q (sym (t.rolls-Class n))
      (λ h. subst (λ g. Reads s a g (t.Class n)) (sym (fold-Class Item TypeShown (owner_step externs) (type_step externs) n))
      (based_reads s a (named externs false n None) (t.Class n)
      (λ at ag. named_read false n None [] (sym (fold-Class Bool Bool (may.owner_step externs) (may.type_step externs) n) ∙ h) at ag (λ next k. no_args next))))
  type_made (layer.Value n) = subst Q (sym (t.rolls-Value n))
      (λ h. subst (λ g. Reads s a g (t.Value n)) (sym (fold-Value Item TypeShown (owner_step externs) (type_step externs) n))
      (based_reads s a (named externs true n None) (t.Value n)
      (λ at ag. named_read true n None [] (sym (fold-Value Bool Bool (may.owner_step externs) (may.type_step externs) n) ∙ h) at ag (λ next k. no_args next))))
  type_made (layer.Inst v n args) = subst Q (sym (t.rolls-Inst v n (values args)))
      (λ h.
      let hs = and_parts (is_name_readable externs n) (nat_lt 0 (length (map ok (values args))) && list_all (λ y. y) (map ok (values args))) (sym (fold-Inst Bool Bool (may.owner_step externs) (may.type_step externs) v n (values args)) ∙ h) in
      let ks = and_parts (nat_lt 0 (length (map ok (values args)))) (list_all (λ y. y) (map ok (values args))) hs.1 in
      subst (λ g. Reads s a g (t.Inst v n (values args))) (sym (fold-Inst Item TypeShown (owner_step externs) (type_step externs) v n (values args)))
      (based_reads s a (named externs v n (Some (type_args (map types (values args))))) (t.Inst v n (values args)) (instance_read v n args ks.0 ks.1 hs.0)))
  type_made (layer.Var k) = subst Q (sym (t.rolls-Var k))
      (λ h. subst (λ g. Reads s a g (t.Var k)) (sym (fold-Var Item TypeShown (owner_step externs) (type_step externs) k))
      (based_reads s a (variable p.TYPE_BASE_BANG word.BANG k) (t.Var k) (var_read laws s a k (sym (fold-Var Bool Bool (may.owner_step externs) (may.type_step externs) k) ∙ h))))
  type_made (layer.MVar k) = subst Q (sym (t.rolls-MVar k))
      (λ h. subst (λ g. Reads s a g (t.MVar k)) (sym (fold-MVar Item TypeShown (owner_step externs) (type_step externs) k))
      (based_reads s a (variable p.TYPE_BASE_DOUBLE_BANG word.DOUBLE_BANG k) (t.MVar k) (mvar_read laws s a k (sym (fold-MVar Bool Bool (may.owner_step externs) (may.type_step externs) k) ∙ h))))
  type_made (layer.SzArray x) = subst Q (sym (t.rolls-SzArray x.0))
      (λ h. subst (λ g. Reads s a g (t.SzArray x.0)) (sym (fold-SzArray Item TypeShown (owner_step externs) (type_step externs) x.0))
      (suffix_reads s a (types x.0) x.0 (brackets (item p.SHAPE_CLOSE (w word.CLOSE_BRACKET none))) (t.SzArray x.0)
      (x.1 (sym (fold-SzArray Bool Bool (may.owner_step externs) (may.type_step externs) x.0) ∙ h)) refl (λ at ag. refl)))
  type_made (layer.Array x r ss ls) = subst Q (sym (t.rolls-Array x.0 r ss ls))
      (λ h.
      let hs = and_parts (is_shape r ss ls) (ok x.0) (sym (fold-Array Bool Bool (may.owner_step externs) (may.type_step externs) x.0 r ss ls) ∙ h) in
      subst (λ g. Reads s a g (t.Array x.0 r ss ls)) (sym (fold-Array Item TypeShown (owner_step externs) (type_step externs) x.0 r ss ls))
      (suffix_reads s a (types x.0) x.0 (brackets (shape (dimensions r ss ls))) (t.Array x.0 r ss ls) (x.1 hs.1) refl (array_read laws s x.0 r ss ls hs.0)))
  type_made (layer.ByRef x) = subst Q (sym (t.rolls-ByRef x.0))
      (λ h. subst (λ g. Reads s a g (t.ByRef x.0)) (sym (fold-ByRef Item TypeShown (owner_step externs) (type_step externs) x.0))
      (suffix_reads s a (types x.0) x.0 (item p.TYPE_SUFFIX_AMPERSAND (w word.AMPERSAND none)) (t.ByRef x.0)
      (x.1 (sym (fold-ByRef Bool Bool (may.owner_step externs) (may.type_step externs) x.0) ∙ h)) refl (λ at ag. refl)))
  type_made (layer.Pointer x) = subst Q (sym (t.rolls-Pointer x.0))
      (λ h. subst (λ g. Reads s a g (t.Pointer x.0)) (sym (fold-Pointer Item TypeShown (owner_step externs) (type_step externs) x.0))
      (suffix_reads s a (types x.0) x.0 (item p.TYPE_SUFFIX_STAR (w word.STAR none)) (t.Pointer x.0)
      (x.1 (sym (fold-Pointer Bool Bool (may.owner_step externs) (may.type_step externs) x.0) ∙ h)) refl (λ at ag. refl)))
  type_made (layer.Mod true y x) = subst Q (sym (t.rolls-Mod true y.0 x.0))
      (λ h.
      let hs = and_parts (owner_ok y.0) (ok x.0) (sym (fold-Mod Bool Bool (may.owner_step externs) (may.type_step externs) true y.0 x.0) ∙ h) in
      subst (λ g. Reads s a g (t.Mod true y.0 x.0)) (sym (fold-Mod Item TypeShown (owner_step externs) (type_step externs) true y.0 x.0))
      (suffix_reads s a (types x.0) x.0 (modifier p.TYPE_SUFFIX_MODREQ word.MODREQ (owners y.0)) (t.Mod true y.0 x.0) (x.1 hs.1) refl
      (λ at ag. ap (λ u. t.Mod true u x.0) (modified p.TYPE_SUFFIX_MODREQ word.MODREQ (owners y.0) y.0 (y.1 hs.0) at ag))))
  type_made (layer.Mod false y x) = subst Q (sym (t.rolls-Mod false y.0 x.0))
      (λ h.
      let hs = and_parts (owner_ok y.0) (ok x.0) (sym (fold-Mod Bool Bool (may.owner_step externs) (may.type_step externs) false y.0 x.0) ∙ h) in
      subst (λ g. Reads s a g (t.Mod false y.0 x.0)) (sym (fold-Mod Item TypeShown (owner_step externs) (type_step externs) false y.0 x.0))
      (suffix_reads s a (types x.0) x.0 (modifier p.TYPE_SUFFIX_MODOPT word.MODOPT (owners y.0)) (t.Mod false y.0 x.0) (x.1 hs.1) refl
      (λ at ag. ap (λ u. t.Mod false u x.0) (modified p.TYPE_SUFFIX_MODOPT word.MODOPT (owners y.0) y.0 (y.1 hs.0) at ag))))
  type_made (layer.Pinned x) = subst Q (sym (t.rolls-Pinned x.0))
      (λ h. subst (λ g. Reads s a g (t.Pinned x.0)) (sym (fold-Pinned Item TypeShown (owner_step externs) (type_step externs) x.0))
      (suffix_reads s a (types x.0) x.0 (item p.TYPE_SUFFIX_PINNED (w word.PINNED none)) (t.Pinned x.0)
      (x.1 (sym (fold-Pinned Bool Bool (may.owner_step externs) (may.type_step externs) x.0) ∙ h)) refl (λ at ag. refl)))

  name_owner : (n : TypeName) → is_name_readable externs n ≡ true → OwnerReads (owner_step externs (layer.Name n)) (o.Name n)
  unfolding owners_in
  name_owner n h at ag after = ap (λ m. o.Name m ∷ owners_in s a after) (name_is n h at ag.0 f.none)

  type_owner : (x : TypeWith P Q) → Reads s a (types x.0) x.0 → OwnerReads (owner_step externs (layer.Spec (types x.0))) (o.Spec x.0)
  unfolding owners_in types_in
  type_owner x r at ag after = ap (λ u. o.Spec u ∷ owners_in s a after) (whole_reads s a (types x.0) x.0 r at ag.0)

  owner_made : (l : layer.Owner-F (OwnerWith P Q) (TypeWith P Q)) → P (roll-Owner (owner_values P Q l))
  owner_made (layer.Name n) = subst P (sym (o.rolls-Name n))
      (λ h. subst (λ i. OwnerReads i (o.Name n)) (sym (fold-Name Item TypeShown (owner_step externs) (type_step externs) n))
      (name_owner n (sym (fold-Name Bool Bool (may.owner_step externs) (may.type_step externs) n) ∙ h)))
  owner_made (layer.Spec x) = subst P (sym (o.rolls-Spec x.0))
      (λ h. subst (λ i. OwnerReads i (o.Spec x.0)) (sym (fold-Spec Item TypeShown (owner_step externs) (type_step externs) x.0))
      (type_owner x (x.1 (sym (fold-Spec Bool Bool (may.owner_step externs) (may.type_step externs) x.0) ∙ h))))

  type_all : (u : SigType) → Q u
  type_all = by_layers P Q owner_made type_made

  owner_all : (u : Owner) → P u
  owner_all = owner_by_layers P Q owner_made type_made

  type_is : (u : SigType) → is_type_readable externs u ≡ true → (at : ℕ) → Agrees s at (of_shown (shown_type externs u)) →
      type_of s a (numbered at (of_shown (shown_type externs u))) ≡ u
  unfolding is_type_readable shown_type
  type_is u h at ag = whole_reads s a (types u) u (type_all u h) at ag

  owner_is : (u : Owner) → is_owner_readable externs u ≡ true → (at : ℕ) → Agrees s at (owner externs u).below → (after : f.Forest) →
      owners_in s a (f.branch (owner externs u).production (numbered at (owner externs u).below) after) ≡ u ∷ owners_in s a after
  unfolding is_owner_readable owner
  owner_is u h at ag after = owner_all u h at ag after

abbrev nothing_near : Around
nothing_near = record { path = []; class = f.none; method = f.none }

pub terms_are_read : NamesAreRead → NumbersAreRead → RowsAreRead → TermsAreRead
terms_are_read names laws rows = record {
  names = λ s externs knows n h at ag after. name_is names laws rows s nothing_near externs knows n h at ag after;
  types = λ s a externs knows u h at ag. type_is names laws rows s a externs knows u h at ag;
  owners = λ s a externs knows u h at ag after. owner_is names laws rows s a externs knows u h at ag after;
}
