-- What is drawn of a type, by its layers.
use Rattle.std.proofs.Common.{◌≡◌, ℕ, ℤ, Bool, true, false, List, [], ◌∷◌, ◌++◌, map, Option, None, Some, refl, ap, sym, ◌∙◌}
use Rattle.std.proofs.lemmas.Simd.{map-map}
use Rattle.il_lexer.specs.declared.word.TheConstants as word
use Rattle.ilasm_grammar.specs.declared.productions.TheConstants as p
use Rattle.type_terms.specs.declared.name.TypeName.{TypeName}
use Rattle.type_terms.specs.declared.term.Primitive as prim
use Rattle.type_terms.specs.declared.term.Owner.{Owner}
use Rattle.type_terms.specs.declared.term.SigType.{SigType}
use Rattle.type_terms.specs.declared.term.Owner.TheVariants as o
use Rattle.type_terms.specs.declared.term.SigType.TheVariants as t
use Rattle.type_terms.proofs.Layers as layers
use Rattle.assembly_tree.specs.declared.assembly.ExternAssembly.{ExternAssembly}
use Rattle.listing_model.specs.Shown.{Shown, none, Item, item, put, w, star, star_below}
use Rattle.listing_model.specs.Types.{TypeShown, based, with_suffix, of_shown, type_item, type_args, brackets, modifier, named, primitive, variable, dimensions, shape, owner_step, type_step, shown_type, owner, type_below, type_of, type_name}
use Rattle.print_leaves.specs.Page.{Page, drawn}
use Rattle.print_terms.specs.Primitives.{mod_word}
use Rattle.print_terms.specs.Rows.{under, in_row, between}
use Rattle.print_terms.proofs.Rows.{star_row, row_append, commas_between}

-- a suffix more is drawn behind the rest
suffixed : (q : Page) (t : TypeShown) (i : Item) → drawn q (of_shown (with_suffix t i)) ≡ under (drawn q (of_shown t)) i
suffixed q t i =
    star_row p.TYPE_SUFFIX_STAR_MORE p.TYPE_SUFFIX_STAR_END (under q t.base) (t.suffixes ++ i ∷ [])
    ∙ (row_append (under q t.base) t.suffixes (i ∷ [])
    ∙ ap (λ r. under r i) (sym (star_row p.TYPE_SUFFIX_STAR_MORE p.TYPE_SUFFIX_STAR_END (under q t.base) t.suffixes)))

module _ (externs : List ExternAssembly) where
  pub type_is : (x : SigType) (y : TypeShown) → shown_type externs x ≡ y → (q : Page) → drawn q (type_below externs x) ≡ drawn q (of_shown y)
  type_is x y e q = ap (λ s. drawn q (of_shown s)) e

  pub prim_drawn : (q : Page) (x : prim.Primitive) → drawn q (type_below externs (t.Prim x)) ≡ under q (primitive x)
  unfolding shown_type
  prim_drawn q x = type_is (t.Prim x) (based (primitive x)) (layers.fold-Prim Item TypeShown (owner_step externs) (type_step externs) x) q

  pub class_drawn : (q : Page) (n : TypeName) → drawn q (type_below externs (t.Class n)) ≡ under q (named externs false n None)
  unfolding shown_type
  class_drawn q n = type_is (t.Class n) (based (named externs false n None)) (layers.fold-Class Item TypeShown (owner_step externs) (type_step externs) n) q

  pub value_drawn : (q : Page) (n : TypeName) → drawn q (type_below externs (t.Value n)) ≡ under q (named externs true n None)
  unfolding shown_type
  value_drawn q n = type_is (t.Value n) (based (named externs true n None)) (layers.fold-Value Item TypeShown (owner_step externs) (type_step externs) n) q

  pub inst_drawn : (q : Page) (v : Bool) (n : TypeName) (args : List SigType) →
      drawn q (type_below externs (t.Inst v n args))
      ≡ drawn (between (drawn (under q (named externs v n None)) (w word.LESS none)) (map (type_of externs) args)) (w word.GREATER none)
  unfolding shown_type
  inst_drawn q v n args =
      let shown = map (λ x. shown_type externs x) args in
      let front = drawn (under q (named externs v n None)) (w word.LESS none) in
      type_is (t.Inst v n args) (based (named externs v n (Some (type_args shown)))) (layers.fold-Inst Item TypeShown (owner_step externs) (type_step externs) v n args) q
      ∙ (commas_between p.COMMA_TYPE_STAR_MORE p.COMMA_TYPE_STAR_END p.COMMA_TYPE front (map type_item shown) (w word.GREATER none)
      ∙ ap (λ is. drawn (between front is) (w word.GREATER none)) (map-map type_item (λ x. shown_type externs x) args))

  pub var_drawn : (q : Page) (k : ℕ) → drawn q (type_below externs (t.Var k)) ≡ under q (variable p.TYPE_BASE_BANG word.BANG k)
  unfolding shown_type
  var_drawn q k = type_is (t.Var k) (based (variable p.TYPE_BASE_BANG word.BANG k)) (layers.fold-Var Item TypeShown (owner_step externs) (type_step externs) k) q

  pub mvar_drawn : (q : Page) (k : ℕ) → drawn q (type_below externs (t.MVar k)) ≡ under q (variable p.TYPE_BASE_DOUBLE_BANG word.DOUBLE_BANG k)
  unfolding shown_type
  mvar_drawn q k = type_is (t.MVar k) (based (variable p.TYPE_BASE_DOUBLE_BANG word.DOUBLE_BANG k)) (layers.fold-MVar Item TypeShown (owner_step externs) (type_step externs) k) q

  -- a type with a suffix more
  behind_type : (x y : SigType) (i : Item) → shown_type externs x ≡ with_suffix (shown_type externs y) i → (q : Page) →
      drawn q (type_below externs x) ≡ under (drawn q (type_below externs y)) i
  behind_type x y i e q = type_is x (with_suffix (shown_type externs y) i) e q ∙ suffixed q (shown_type externs y) i

  pub vector_drawn : (q : Page) (x : SigType) →
      drawn q (type_below externs (t.SzArray x)) ≡ under (drawn q (type_below externs x)) (brackets (item p.SHAPE_CLOSE (w word.CLOSE_BRACKET none)))
  unfolding shown_type
  vector_drawn q x =
      behind_type (t.SzArray x) x (brackets (item p.SHAPE_CLOSE (w word.CLOSE_BRACKET none)))
      (layers.fold-SzArray Item TypeShown (owner_step externs) (type_step externs) x) q

  pub array_drawn : (q : Page) (x : SigType) (r : ℕ) (sizes : List ℕ) (lower : List ℤ) →
      drawn q (type_below externs (t.Array x r sizes lower)) ≡ under (drawn q (type_below externs x)) (brackets (shape (dimensions r sizes lower)))
  unfolding shown_type
  array_drawn q x r sizes lower =
      behind_type (t.Array x r sizes lower) x (brackets (shape (dimensions r sizes lower)))
      (layers.fold-Array Item TypeShown (owner_step externs) (type_step externs) x r sizes lower) q

  pub by_ref_drawn : (q : Page) (x : SigType) → drawn q (type_below externs (t.ByRef x)) ≡ drawn (drawn q (type_below externs x)) (w word.AMPERSAND none)
  unfolding shown_type
  by_ref_drawn q x =
      behind_type (t.ByRef x) x (item p.TYPE_SUFFIX_AMPERSAND (w word.AMPERSAND none)) (layers.fold-ByRef Item TypeShown (owner_step externs) (type_step externs) x) q

  pub pointer_drawn : (q : Page) (x : SigType) → drawn q (type_below externs (t.Pointer x)) ≡ drawn (drawn q (type_below externs x)) (w word.STAR none)
  unfolding shown_type
  pointer_drawn q x =
      behind_type (t.Pointer x) x (item p.TYPE_SUFFIX_STAR (w word.STAR none)) (layers.fold-Pointer Item TypeShown (owner_step externs) (type_step externs) x) q

  pub pinned_drawn : (q : Page) (x : SigType) → drawn q (type_below externs (t.Pinned x)) ≡ drawn (drawn q (type_below externs x)) (w word.PINNED none)
  unfolding shown_type
  pinned_drawn q x =
      behind_type (t.Pinned x) x (item p.TYPE_SUFFIX_PINNED (w word.PINNED none)) (layers.fold-Pinned Item TypeShown (owner_step externs) (type_step externs) x) q

  abbrev modifier_of : Bool → Item → Item
  modifier_of true by = modifier p.TYPE_SUFFIX_MODREQ word.MODREQ by
  modifier_of false by = modifier p.TYPE_SUFFIX_MODOPT word.MODOPT by

  modifier_drawn : (q : Page) (required : Bool) (by : Item) →
      under q (modifier_of required by)
      ≡ drawn (under (drawn (drawn q (w (mod_word required) none)) (w word.OPEN_PAREN none)) by) (w word.CLOSE_PAREN none)
  modifier_drawn q true by = refl
  modifier_drawn q false by = refl

  mod_is : (x : SigType) (o : Owner) (required : Bool) → shown_type externs (t.Mod required o x) ≡ with_suffix (shown_type externs x) (modifier_of required (owner externs o))
  unfolding shown_type owner
  mod_is x o true = layers.fold-Mod Item TypeShown (owner_step externs) (type_step externs) true o x
  mod_is x o false = layers.fold-Mod Item TypeShown (owner_step externs) (type_step externs) false o x

  pub mod_drawn : (q : Page) (required : Bool) (o : Owner) (x : SigType) →
      drawn q (type_below externs (t.Mod required o x))
      ≡ drawn (under (drawn (drawn (drawn q (type_below externs x)) (w (mod_word required) none)) (w word.OPEN_PAREN none)) (owner externs o)) (w word.CLOSE_PAREN none)
  mod_drawn q required o x =
      behind_type (t.Mod required o x) x (modifier_of required (owner externs o)) (mod_is x o required) q
      ∙ modifier_drawn (drawn q (type_below externs x)) required (owner externs o)

  pub name_drawn : (q : Page) (n : TypeName) → under q (owner externs (o.Name n)) ≡ under q (type_name externs n)
  unfolding owner
  name_drawn q n = ap (under q) (layers.fold-Name Item TypeShown (owner_step externs) (type_step externs) n)

  pub spec_drawn : (q : Page) (x : SigType) → under q (owner externs (o.Spec x)) ≡ drawn q (type_below externs x)
  unfolding owner shown_type
  spec_drawn q x = ap (under q) (layers.fold-Spec Item TypeShown (owner_step externs) (type_step externs) x)
