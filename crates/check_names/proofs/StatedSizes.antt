-- The sizes of types in data, by their productions.
use Rattle.std.proofs.Common.{◌≡◌, ℕ, ◌/◌, List, [], ◌∷◌, length, ap, sym, subst, ◌∙◌, refl}
use Rattle.std.specs.Prelude.{Bool, true, false, ◌==◌, ◌||◌, if◌then◌else◌, Option, None, Some}
use Rattle.std.proofs.lemmas.Bool.Decides.{Decides-eqb}
use Rattle.type_terms.proofs.Layers.{fold-Array, fold-ByRef, fold-Class, fold-Inst, fold-MVar, fold-Mod, fold-Pinned, fold-Pointer, fold-Prim, fold-SzArray, fold-Var}
use Rattle.type_terms.specs.declared.name.Scope as scope
use Rattle.type_terms.specs.declared.name.TypeId.{TypeId}
use Rattle.type_terms.specs.declared.name.TypeName.{TypeName}
use Rattle.type_terms.specs.declared.term.Owner.{Owner}
use Rattle.type_terms.specs.declared.term.Primitive.{Primitive}
use Rattle.type_terms.specs.declared.term.Primitive.TheVariants as prim
use Rattle.type_terms.specs.declared.term.SigType.{SigType, Array, ByRef, MVar, Mod, Pinned, Pointer, Prim, SzArray, Var}
use Rattle.assembly_tree.specs.DataSize.{no_size, primitive_size}
use Rattle.ilasm_grammar.specs.declared.productions.TheConstants.{INT_TYPE_INT16, INT_TYPE_INT32, INT_TYPE_INT64, INT_TYPE_INT8, INT_TYPE_UINT16, INT_TYPE_UINT32, INT_TYPE_UINT8, NATIVE_INT_INT, TYPE_BASE_BANG, TYPE_BASE_BOOL, TYPE_BASE_CHAR, TYPE_BASE_CLASS, TYPE_BASE_FLOAT32, TYPE_BASE_FLOAT64, TYPE_BASE_INT_TYPE, TYPE_BASE_NATIVE, TYPE_BASE_OBJECT, TYPE_BASE_STRING, TYPE_BASE_TYPEDREF, TYPE_BASE_VALUETYPE, TYPE_BASE_VOID, TYPE_SUFFIX_AMPERSAND, TYPE_SUFFIX_MODOPT, TYPE_SUFFIX_MODREQ, TYPE_SUFFIX_PINNED, TYPE_SUFFIX_STAR, UNSIGNED_INT_INT16, UNSIGNED_INT_INT32, UNSIGNED_INT_INT8}
use Rattle.ilasm_grammar.specs.declared.tree.TreeNode.{TreeNode}
use Rattle.ilasm_grammar.specs.declared.tree.TreeNode.TheVariants.{Branch, Leaf}
use Rattle.source_model.specs.Constants.{bits_of}
use Rattle.source_model.specs.Data.{size_by, size_step}
use Rattle.source_model.specs.Forest.{Forest, none, leaf, branch, has, is_among, joined, preorder}
use Rattle.source_model.specs.Laws.{ForestsJoin}
use Rattle.source_model.specs.Names.{type_name}
use Rattle.source_model.specs.Nodes.{Around, typar_names}
use Rattle.source_model.specs.Shapes.{dimensions, is_vector, lower_bounds, sizes}
use Rattle.source_model.specs.Source.{Source}
use Rattle.source_model.specs.Types.{array, base_type, first_owner, int_type, named_type, owners_in, suffix, suffixed, suffixes, variable_number}
use Rattle.source_syntax.specs.Suffixes.{is_suffix}
use Rattle.source_nodes.specs.Walk.{Opens}
use Rattle.source_nodes.specs.declared.walk.Opened.{Opened}
use Rattle.source_nodes.proofs.Collecting.{no_forest}
use Rattle.source_syntax.proofs.TypeLemmas as type
use Rattle.check_names.specs.StatedSizes.{base_width}
use Rattle.check_names.specs.TypeDepths.{is_modifier}
use Rattle.check_names.proofs.DepthLemmas.{suffixed_at}

module _ (s : Source) (value : scope.Scope → List TypeId → Option ℕ) where
  either : (c : Bool) (x y : SigType) (m n : Option ℕ) → size_by value x ≡ m → size_by value y ≡ n → size_by value (if c then x else y) ≡ (if c then m else n)
  either true x y m n e f = e
  either false x y m n e f = f

  neither : (c : Bool) (x y : SigType) → size_by value x ≡ None → size_by value y ≡ None → size_by value (if c then x else y) ≡ None
  neither true x y e f = e
  neither false x y e f = f

  other : (c : Bool) (x y : SigType) → c ≡ false → size_by value (if c then x else y) ≡ size_by value y
  other c x y e = ap (λ b. size_by value (if b then x else y)) e

  -- ---- suffixes

  module _ (p : ℕ) (f : Forest) (by : List Owner) (t : SigType) where
    plain_suffix : (p == TYPE_SUFFIX_MODREQ) ≡ false → (p == TYPE_SUFFIX_MODOPT) ≡ false → size_by value (suffix s p f by t) ≡ None
    plain_suffix req opt =
        let mods = if p == TYPE_SUFFIX_MODOPT then Mod false (first_owner by) t else array s f t in
        let reqs = if p == TYPE_SUFFIX_MODREQ then Mod true (first_owner by) t else mods in
        let pins = if p == TYPE_SUFFIX_PINNED then Pinned t else reqs in
        let stars = if p == TYPE_SUFFIX_STAR then Pointer t else pins in
        let shaped = Array t (length (dimensions f)) (sizes s (dimensions f)) (lower_bounds s (dimensions f)) in
        neither (p == TYPE_SUFFIX_AMPERSAND) (ByRef t) stars (fold-ByRef (Option ℕ) (Option ℕ) no_size (size_step value) t)
        (neither (p == TYPE_SUFFIX_STAR) (Pointer t) pins (fold-Pointer (Option ℕ) (Option ℕ) no_size (size_step value) t)
        (neither (p == TYPE_SUFFIX_PINNED) (Pinned t) reqs (fold-Pinned (Option ℕ) (Option ℕ) no_size (size_step value) t)
        (other (p == TYPE_SUFFIX_MODREQ) (Mod true (first_owner by) t) mods req
        ∙ other (p == TYPE_SUFFIX_MODOPT) (Mod false (first_owner by) t) (array s f t) opt
        ∙ neither (is_vector f) (SzArray t) shaped (fold-SzArray (Option ℕ) (Option ℕ) no_size (size_step value) t)
        (fold-Array (Option ℕ) (Option ℕ) no_size (size_step value) t (length (dimensions f)) (sizes s (dimensions f)) (lower_bounds s (dimensions f))))))

    pub suffix_size : size_by value (suffix s p f by t) ≡ (if is_modifier p then size_by value t else None)
    suffix_size = go (p == TYPE_SUFFIX_MODREQ) refl (p == TYPE_SUFFIX_MODOPT) refl
      where
        go : (c : Bool) → (p == TYPE_SUFFIX_MODREQ) ≡ c → (v : Bool) → (p == TYPE_SUFFIX_MODOPT) ≡ v → size_by value (suffix s p f by t) ≡ (if is_modifier p then size_by value t else None)
        go true req v opt =
            subst (λ q. size_by value (suffix s q f by t) ≡ (if is_modifier q then size_by value t else None)) (sym ((Decides-eqb p TYPE_SUFFIX_MODREQ).0 req))
            (fold-Mod (Option ℕ) (Option ℕ) no_size (size_step value) true (first_owner by) t)
        go false req true opt =
            subst (λ q. size_by value (suffix s q f by t) ≡ (if is_modifier q then size_by value t else None)) (sym ((Decides-eqb p TYPE_SUFFIX_MODOPT).0 opt))
            (fold-Mod (Option ℕ) (Option ℕ) no_size (size_step value) false (first_owner by) t)
        go false req false opt =
            plain_suffix req opt
            ∙ sym (ap (λ (c : Bool). if c || (p == TYPE_SUFFIX_MODOPT) then size_by value t else None) req
            ∙ ap (λ (c : Bool). if c then size_by value t else None) opt)

  -- a type without a size has none with suffixes
  pub none_stays : (a : Around) (f : Forest) (t : SigType) → size_by value t ≡ None → size_by value (suffixed s a f t) ≡ None
  none_stays a none t e = ap (size_by value) (type.suffixed_none s a t) ∙ e
  none_stays a (leaf k f) t e = ap (size_by value) (type.suffixed_leaf s a k f t) ∙ none_stays a f t e
  none_stays a (branch p b f) t e =
      ap (size_by value) (suffixed_at s a p b f t)
      ∙ none_stays a f (if is_among suffixes p then suffix s p b (owners_in s a b) t else suffixed s a b t) (go (is_among suffixes p) (none_stays a b t e))
    where
      within : (c : Bool) → (if c then size_by value t else None) ≡ None
      within true = e
      within false = refl

      go : (c : Bool) → size_by value (suffixed s a b t) ≡ None → size_by value (if c then suffix s p b (owners_in s a b) t else suffixed s a b t) ≡ None
      go true inner = suffix_size p b (owners_in s a b) t ∙ within (is_modifier p)
      go false inner = inner

  -- what is left goes round `type`, which has this size, and the whole comes of it
  pub record Sized (a : Around) (whole : SigType) (size : Option ℕ) (left : List TreeNode) : Type 0 where
    pub rest : Forest
    pub is : preorder rest ≡ left
    pub type : SigType
    pub same : suffixed s a rest type ≡ whole
    pub size-is : size_by value type ≡ size

  pub sized_start : (a : Around) (f : Forest) (nodes : List TreeNode) (t : SigType) → preorder f ≡ nodes → Sized a (suffixed s a f t) (size_by value t) nodes
  sized_start a f nodes t e = record { rest = f; is = e; type = t; same = refl; size-is = refl }

  pub sized_into : ForestsJoin → (a : Around) (whole : SigType) (size : Option ℕ) (left : List TreeNode) (x : Opened) → Opens left x → is_suffix x.node ≡ false
      → Sized a whole size left → Sized a whole size x.behind.now
  sized_into joins a whole size left x o other w = go x.node refl
    where
      go : (node : TreeNode) → x.node ≡ node → Sized a whole size x.behind.now
      go (Leaf token) is =
          let b = o.leaf w.rest token w.is is in
          record {
            rest = b.after;
            is = b.rest;
            type = w.type;
            same = sym (type.suffixed_leaf s a token b.after w.type) ∙ ap (λ g. suffixed s a g w.type) (sym b.is) ∙ w.same;
            size-is = w.size-is;
          }
      go (Branch q count) is =
          let b = o.branch w.rest q count w.is is in
          let apart : is_among suffixes q ≡ false = ap is_suffix (sym is) ∙ other in
          record {
            rest = joined b.inner b.rest;
            is = b.behind-is;
            type = w.type;
            same = sym (type.suffixed_other s a q b.inner b.rest w.type apart) ∙ ap (λ g. suffixed s a g w.type) (sym b.is) ∙ w.same;
            size-is = w.size-is;
          }

  pub sized_past : (a : Around) (whole : SigType) (size : Option ℕ) (left : List TreeNode) (x : Opened) (p count : ℕ) → Opens left x → x.node ≡ Branch p count
      → is_among suffixes p ≡ true → is_modifier p ≡ true → Sized a whole size left → Sized a whole size x.after.now
  sized_past a whole size left x p count o is known modifier w =
      let b = o.branch w.rest p count w.is is in
      let by = owners_in s a b.inner in
      record {
        rest = b.rest;
        is = b.rest-is;
        type = suffix s p b.inner by w.type;
        same = sym (type.suffixed_own s a p b.inner b.rest w.type known) ∙ ap (λ g. suffixed s a g w.type) (sym b.is) ∙ w.same;
        size-is = suffix_size p b.inner by w.type ∙ ap (λ (c : Bool). if c then size_by value w.type else None) modifier ∙ w.size-is;
      }

  pub sized_lost : (a : Around) (whole : SigType) (size : Option ℕ) (left : List TreeNode) (x : Opened) (p count : ℕ) → Opens left x → x.node ≡ Branch p count
      → is_among suffixes p ≡ true → is_modifier p ≡ false → Sized a whole size left → size_by value whole ≡ None
  sized_lost a whole size left x p count o is known plain w =
      let b = o.branch w.rest p count w.is is in
      let by = owners_in s a b.inner in
      ap (size_by value)
      (sym (sym (type.suffixed_own s a p b.inner b.rest w.type known) ∙ ap (λ g. suffixed s a g w.type) (sym b.is) ∙ w.same))
      ∙ none_stays a b.rest (suffix s p b.inner by w.type)
      (suffix_size p b.inner by w.type ∙ ap (λ (c : Bool). if c then size_by value w.type else None) plain)

  pub sized_end : (a : Around) (whole : SigType) (size : Option ℕ) (left : List TreeNode) → left ≡ [] → Sized a whole size left → size_by value whole ≡ size
  sized_end a whole size left e w =
      let nothing = no_forest w.rest (w.is ∙ e) in
      ap (size_by value) (sym (sym (type.suffixed_none s a w.type) ∙ ap (λ g. suffixed s a g w.type) (sym nothing) ∙ w.same)) ∙ w.size-is

  -- ---- bases

  prim_size : (x : Primitive) → size_by value (Prim x) ≡ primitive_size x
  prim_size x = fold-Prim (Option ℕ) (Option ℕ) no_size (size_step value) x

  class_size : (name : TypeName) (args : List SigType) → size_by value (named_type false name args) ≡ None
  class_size name [] = fold-Class (Option ℕ) (Option ℕ) no_size (size_step value) name
  class_size name (t ∷ ts) = fold-Inst (Option ℕ) (Option ℕ) no_size (size_step value) false name (t ∷ ts)

  int_size : (f : Forest) → primitive_size (int_type f) ≡ Some (bits_of (int_type f) / 8)
  int_size f =
      one (has INT_TYPE_INT8 f) prim.I1 _ refl
      (one (has INT_TYPE_INT16 f) prim.I2 _ refl
      (one (has INT_TYPE_INT32 f) prim.I4 _ refl
      (one (has INT_TYPE_INT64 f) prim.I8 _ refl
      (one (has INT_TYPE_UINT8 f || has UNSIGNED_INT_INT8 f) prim.U1 _ refl
      (one (has INT_TYPE_UINT16 f || has UNSIGNED_INT_INT16 f) prim.U2 _ refl
      (one (has INT_TYPE_UINT32 f || has UNSIGNED_INT_INT32 f) prim.U4 prim.U8 refl refl))))))
    where
      one : (c : Bool) (x y : Primitive) → primitive_size x ≡ Some (bits_of x / 8) → primitive_size y ≡ Some (bits_of y / 8)
          → primitive_size (if c then x else y) ≡ Some (bits_of (if c then x else y) / 8)
      one true x y e f = e
      one false x y e f = f

  module _ (a : Around) (p : ℕ) (f : Forest) (args : List SigType) where
    pub base_size : (p == TYPE_BASE_VALUETYPE) ≡ false → size_by value (base_type s a p f args) ≡ base_width p f
    base_size differs =
        let bang = if p == TYPE_BASE_BANG then Var (variable_number s (typar_names s a.class) f) else MVar (variable_number s (typar_names s a.method) f) in
        let values = if p == TYPE_BASE_VALUETYPE then named_type true (type_name s f) args else bang in
        let classes = if p == TYPE_BASE_CLASS then named_type false (type_name s f) args else values in
        let natives = if p == TYPE_BASE_NATIVE then (if has NATIVE_INT_INT f then Prim prim.NInt else Prim prim.NUint) else classes in
        let ints = if p == TYPE_BASE_INT_TYPE then Prim (int_type f) else natives in
        let doubles = if p == TYPE_BASE_FLOAT64 then Prim prim.R8 else ints in
        let floats = if p == TYPE_BASE_FLOAT32 then Prim prim.R4 else doubles in
        let typed = if p == TYPE_BASE_TYPEDREF then Prim prim.TypedRef else floats in
        let objects = if p == TYPE_BASE_OBJECT then Prim prim.Object else typed in
        let strings = if p == TYPE_BASE_STRING then Prim prim.Str else objects in
        let chars = if p == TYPE_BASE_CHAR then Prim prim.Char else strings in
        let bools = if p == TYPE_BASE_BOOL then Prim prim.Bool else chars in
        let of_int = if p == TYPE_BASE_INT_TYPE then Some (bits_of (int_type f) / 8) else None in
        let of_double = if p == TYPE_BASE_FLOAT64 then Some 8 else of_int in
        let of_float = if p == TYPE_BASE_FLOAT32 then Some 4 else of_double in
        let of_typed = if p == TYPE_BASE_TYPEDREF then None else of_float in
        let of_object = if p == TYPE_BASE_OBJECT then None else of_typed in
        let of_string = if p == TYPE_BASE_STRING then None else of_object in
        let of_char = if p == TYPE_BASE_CHAR then Some 2 else of_string in
        let of_bool = if p == TYPE_BASE_BOOL then Some 1 else of_char in
        either (p == TYPE_BASE_VOID) (Prim prim.Void) bools None of_bool (prim_size prim.Void)
        (either (p == TYPE_BASE_BOOL) (Prim prim.Bool) chars (Some 1) of_char (prim_size prim.Bool)
        (either (p == TYPE_BASE_CHAR) (Prim prim.Char) strings (Some 2) of_string (prim_size prim.Char)
        (either (p == TYPE_BASE_STRING) (Prim prim.Str) objects None of_object (prim_size prim.Str)
        (either (p == TYPE_BASE_OBJECT) (Prim prim.Object) typed None of_typed (prim_size prim.Object)
        (either (p == TYPE_BASE_TYPEDREF) (Prim prim.TypedRef) floats None of_float (prim_size prim.TypedRef)
        (either (p == TYPE_BASE_FLOAT32) (Prim prim.R4) doubles (Some 4) of_double (prim_size prim.R4)
        (either (p == TYPE_BASE_FLOAT64) (Prim prim.R8) ints (Some 8) of_int (prim_size prim.R8)
        (either (p == TYPE_BASE_INT_TYPE) (Prim (int_type f)) natives (Some (bits_of (int_type f) / 8)) None (prim_size (int_type f) ∙ int_size f)
        (neither (p == TYPE_BASE_NATIVE) (if has NATIVE_INT_INT f then Prim prim.NInt else Prim prim.NUint) classes
        (neither (has NATIVE_INT_INT f) (Prim prim.NInt) (Prim prim.NUint) (prim_size prim.NInt) (prim_size prim.NUint))
        (neither (p == TYPE_BASE_CLASS) (named_type false (type_name s f) args) values (class_size (type_name s f) args)
        (other (p == TYPE_BASE_VALUETYPE) (named_type true (type_name s f) args) bang differs
        ∙ neither (p == TYPE_BASE_BANG) (Var (variable_number s (typar_names s a.class) f)) (MVar (variable_number s (typar_names s a.method) f))
        (fold-Var (Option ℕ) (Option ℕ) no_size (size_step value) (variable_number s (typar_names s a.class) f))
        (fold-MVar (Option ℕ) (Option ℕ) no_size (size_step value) (variable_number s (typar_names s a.method) f)))))))))))))
