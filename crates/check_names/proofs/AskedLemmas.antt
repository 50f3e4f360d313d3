-- What rules find at a production of which none of them speaks: nothing.
use Rattle.std.proofs.Common.{◌≡◌, ℕ, List, [], ◌∷◌, ◌++◌, ap, sym, subst, ◌∙◌, refl, append-nil}
use Rattle.std.specs.List.{AllByRecursion}
use Rattle.std.specs.Prelude.{Bool, true, false, ◌==◌, ◌||◌, ◌&&◌, None, if◌then◌else◌}
use Rattle.std.proofs.lemmas.Bool.Decides.{Decides-eqb}
use Rattle.ilasm_grammar.specs.declared.productions.TheConstants.{ASSEMBLY_ATTR_FLAGS, ASSEMBLY_ITEM_HASH, AT_NAME, CLASS, CLASS_ATTR_FLAGS, CONST_CHAR, CONST_FLOAT32, CONST_FLOAT64, CONST_INT_TYPE, DATA, DATA_ITEM_DATA_NUM, DECL_CORFLAGS, DECL_FILE, DECL_IMAGEBASE, DECL_STACKRESERVE, DECL_SUBSYSTEM, DEF_ARGS, FIELD, FIELD_TARGET_NAME, FIELD_TARGET_SCOPE, GEN_ARGS_BRACKET, GEN_ARGS_TYPE, IMPL_ATTR_FLAGS, KEY_VER, MEMBER_PACK, MEMBER_PARAM, MEMBER_SIZE, METHOD, PARAM_ATTR_FLAGS, PARAM_OF_BRACKET, PARAM_OF_TYPE, PROPERTY, SIGNATURE, TARGET_NAME, TARGET_SCOPE, TYPARS, TYPE_BASE_BANG, TYPE_BASE_DOUBLE_BANG, TYPE_NAME_PATH, TYPE_NAME_SCOPE, TYPE_SUFFIX_BRACKET}
use Rattle.source_model.specs.Forest.{Forest, is_among}
use Rattle.source_model.specs.Names.{written_name}
use Rattle.source_model.specs.Nodes.{Node}
use Rattle.source_model.specs.OutOfRange.{barred_arguments, barred_in_property, class_too_deep, constant_out_of_range, data_number_out_of_range, data_too_long, flags_of_16_bits, flags_out_of_range, layout_number_out_of_range, manifest_number_out_of_range, param_out_of_range, without_arguments}
use Rattle.source_model.specs.Source.{Source}
use Rattle.source_model.specs.TypeRules.{arguments_out_of_range, generic_number_out_of_range, index_out_of_range, parameter_flags_out_of_range, path_too_long, path_too_long_in, second_ellipsis, typar_undeclared, typars_out_of_range}
use Rattle.source_model.specs.Undeclared.{param_type_undeclared}
use Rattle.source_nodes.specs.Least.{least}
use Rattle.check_visitor.specs.Surroundings.{is_scope}
use Rattle.source_syntax.specs.declared.class_paths.ClassName.{ClassName}
use Rattle.check_names.specs.AllOfParts.{broken_at, name_broken}
use Rattle.check_names.specs.ArrayNumbers.{array_number, number_at}
use Rattle.check_names.specs.Asked.{barred, constants, flags, generic, is_asked, laid_out, named, of_manifest, shaped}
use Rattle.check_names.specs.Missing.{label_missing}
use Rattle.check_names.specs.NamedTypes.{scope_missing_in, type_missing_in}

-- ---- tests that fail

not_or : (a b : Bool) → (a || b) ≡ false → (a ≡ false) × (b ≡ false)
not_or false b e = (refl, e)
not_or true b e = absurd cc

turned : (q p : ℕ) → (q == p) ≡ false → (p == q) ≡ false
turned q p e = go (p == q) refl
  where
    go : (b : Bool) → (p == q) ≡ b → b ≡ false
    go false h = refl
    go true h =
        let same : p ≡ q = (Decides-eqb p q).0 h in
        let also : (q == p) ≡ true = (Decides-eqb q p).1 (sym same) in
        absurd cc

-- the first of some productions isn't this one
isn't : (q p : ℕ) (more : Bool) → (q == p || more) ≡ false → (p == q) ≡ false
isn't q p more e = turned q p (not_or (q == p) more e).0

-- and those behind it aren't
aren't : (q p : ℕ) (more : Bool) → (q == p || more) ≡ false → more ≡ false
aren't q p more e = (not_or (q == p) more e).1

skip : {X : Type 0} (b : Bool) (x y z : X) → b ≡ false → y ≡ z → (if b then x else y) ≡ z
skip false x y z e h = h
skip true x y z e h = absurd cc

or_not : (a b : Bool) → a ≡ false → b ≡ false → (a || b) ≡ false
or_not false b e h = h
or_not true b e h = absurd cc

and_not : (a b : Bool) → a ≡ false → (a && b) ≡ false
and_not false b e = refl
and_not true b e = absurd cc

both : (xs ys : List ℕ) → xs ≡ [] → ys ≡ [] → xs ++ ys ≡ []
both xs ys e h = ap (λ zs. zs ++ ys) e ∙ h

-- ---- a production that is none of these, save that it may begin with a name

record IsQuiet (p : ℕ) : Type 0 where
  generic : is_among generic p ≡ false
  manifest : is_among of_manifest p ≡ false
  flags : is_among flags p ≡ false
  constants : is_among constants p ≡ false
  laid-out : is_among laid_out p ≡ false
  barred : is_among barred p ≡ false
  shaped : is_among shaped p ≡ false

is_quiet : (p : ℕ) → is_asked p ≡ false → IsQuiet p × (is_among named p ≡ false)
is_quiet p e =
    let a7 = not_or (is_among named p || is_among generic p || is_among of_manifest p || is_among flags p || is_among constants p || is_among laid_out p || is_among barred p) (is_among shaped p) e in
    let a6 = not_or (is_among named p || is_among generic p || is_among of_manifest p || is_among flags p || is_among constants p || is_among laid_out p) (is_among barred p) a7.0 in
    let a5 = not_or (is_among named p || is_among generic p || is_among of_manifest p || is_among flags p || is_among constants p) (is_among laid_out p) a6.0 in
    let a4 = not_or (is_among named p || is_among generic p || is_among of_manifest p || is_among flags p) (is_among constants p) a5.0 in
    let a3 = not_or (is_among named p || is_among generic p || is_among of_manifest p) (is_among flags p) a4.0 in
    let a2 = not_or (is_among named p || is_among generic p) (is_among of_manifest p) a3.0 in
    let a1 = not_or (is_among named p) (is_among generic p) a2.0 in
    let quiet : IsQuiet p =
    record {
      generic = a1.1;
      manifest = a2.1;
      flags = a3.1;
      constants = a4.1;
      laid-out = a5.1;
      barred = a6.1;
      shaped = a7.1;
    } in
    (quiet, a1.0)

-- what holds of each of some productions holds of one among them
of_one : (P : ℕ → Type 0) (qs : List ℕ) (p : ℕ) → AllByRecursion P qs → is_among qs p ≡ true → P p
of_one P [] p h e = absurd cc
of_one P (q ∷ qs) p h e = go (q == p) refl (of_one P qs p h.1) e
  where
    go : (c : Bool) → (q == p) ≡ c → (is_among qs p ≡ true → P p) → (c || is_among qs p) ≡ true → P p
    go true is rest among = subst P ((Decides-eqb q p).0 is) h.0
    go false is rest among = rest among

named_quiet : (p : ℕ) → is_among named p ≡ true → IsQuiet p
named_quiet p e =
    of_one IsQuiet named p (
      record { generic = refl; manifest = refl; flags = refl; constants = refl; laid-out = refl; barred = refl; shaped = refl },
      (
        record { generic = refl; manifest = refl; flags = refl; constants = refl; laid-out = refl; barred = refl; shaped = refl },
        (
          record { generic = refl; manifest = refl; flags = refl; constants = refl; laid-out = refl; barred = refl; shaped = refl },
          (
            record { generic = refl; manifest = refl; flags = refl; constants = refl; laid-out = refl; barred = refl; shaped = refl },
            (
              record { generic = refl; manifest = refl; flags = refl; constants = refl; laid-out = refl; barred = refl; shaped = refl },
              (
                record { generic = refl; manifest = refl; flags = refl; constants = refl; laid-out = refl; barred = refl; shaped = refl },
                tt,
              ),
            ),
          ),
        ),
      ),
    )
    e

-- ---- what rules find there

no_name : (p : ℕ) (f : Forest) → is_among named p ≡ false → written_name p f ≡ None
no_name p f e0 =
    let e1 = aren't TYPE_NAME_SCOPE p _ e0 in
    let e2 = aren't TARGET_SCOPE p _ e1 in
    let e3 = aren't FIELD_TARGET_SCOPE p _ e2 in
    let e4 = aren't TYPE_NAME_PATH p _ e3 in
    let e5 = aren't TARGET_NAME p _ e4 in
    skip (p == TYPE_NAME_SCOPE || p == TARGET_SCOPE || p == FIELD_TARGET_SCOPE) _ _ None
    (or_not (p == TYPE_NAME_SCOPE || p == TARGET_SCOPE) (p == FIELD_TARGET_SCOPE)
    (or_not (p == TYPE_NAME_SCOPE) (p == TARGET_SCOPE) (isn't TYPE_NAME_SCOPE p _ e0) (isn't TARGET_SCOPE p _ e1)) (isn't FIELD_TARGET_SCOPE p _ e2))
    (skip (p == TYPE_NAME_PATH) _ _ None (isn't TYPE_NAME_PATH p _ e3)
    (skip (p == TARGET_NAME) _ _ None (isn't TARGET_NAME p _ e4)
    (skip (p == FIELD_TARGET_NAME) _ None None (isn't FIELD_TARGET_NAME p _ e5) refl)))

module _ (s : Source) (n : Node) (quiet : IsQuiet n.production) where
  abbrev p : ℕ
  p = n.production

  no_typar : typar_undeclared s n ≡ []
  no_typar =
      let e1 = aren't TYPE_BASE_BANG p _ quiet.generic in
      skip (p == TYPE_BASE_BANG) _ _ [] (isn't TYPE_BASE_BANG p _ quiet.generic)
      (skip (p == TYPE_BASE_DOUBLE_BANG) _ _ [] (isn't TYPE_BASE_DOUBLE_BANG p _ e1) refl)

  no_param_type : param_type_undeclared s n ≡ []
  no_param_type =
      let e1 = aren't TYPE_BASE_BANG p _ quiet.generic in
      let e2 = aren't TYPE_BASE_DOUBLE_BANG p _ e1 in
      let e3 = aren't MEMBER_PARAM p _ e2 in
      skip (p == MEMBER_PARAM) _ _ [] (isn't MEMBER_PARAM p _ e2) (skip (p == PARAM_OF_TYPE) _ _ [] (isn't PARAM_OF_TYPE p _ e3) refl)

  no_param : param_out_of_range s n ≡ []
  no_param =
      let e1 = aren't TYPE_BASE_BANG p _ quiet.generic in
      let e2 = aren't TYPE_BASE_DOUBLE_BANG p _ e1 in
      let e3 = aren't MEMBER_PARAM p _ e2 in
      let e4 = aren't PARAM_OF_TYPE p _ e3 in
      skip (p == PARAM_OF_BRACKET) _ _ [] (isn't PARAM_OF_BRACKET p _ e4)
      (skip (p == PARAM_OF_TYPE) _ _ [] (isn't PARAM_OF_TYPE p _ e3) (skip (p == MEMBER_PARAM) _ _ [] (isn't MEMBER_PARAM p _ e2) refl))

  no_generic : generic_number_out_of_range s n ≡ []
  no_generic =
      let e1 = aren't TYPE_BASE_BANG p _ quiet.generic in
      let e2 = aren't TYPE_BASE_DOUBLE_BANG p _ e1 in
      let e3 = aren't MEMBER_PARAM p _ e2 in
      let e4 = aren't PARAM_OF_TYPE p _ e3 in
      let e5 = aren't PARAM_OF_BRACKET p _ e4 in
      let e6 = aren't GEN_ARGS_BRACKET p _ e5 in
      skip (p == GEN_ARGS_BRACKET) _ _ [] (isn't GEN_ARGS_BRACKET p _ e5) (skip (p == GEN_ARGS_TYPE) _ _ [] (isn't GEN_ARGS_TYPE p _ e6) refl)

  no_typars : typars_out_of_range n ≡ []
  no_typars =
      let e1 = aren't TYPE_BASE_BANG p _ quiet.generic in
      let e2 = aren't TYPE_BASE_DOUBLE_BANG p _ e1 in
      let e3 = aren't MEMBER_PARAM p _ e2 in
      let e4 = aren't PARAM_OF_TYPE p _ e3 in
      let e5 = aren't PARAM_OF_BRACKET p _ e4 in
      let e6 = aren't GEN_ARGS_BRACKET p _ e5 in
      let e7 = aren't GEN_ARGS_TYPE p _ e6 in
      skip (p == TYPARS) _ _ [] (isn't TYPARS p _ e7) refl

  no_index : index_out_of_range s n ≡ []
  no_index =
      let e1 = aren't TYPE_BASE_BANG p _ quiet.generic in
      skip _ _ _ []
      (and_not (p == TYPE_BASE_BANG || p == TYPE_BASE_DOUBLE_BANG) _
      (or_not (p == TYPE_BASE_BANG) (p == TYPE_BASE_DOUBLE_BANG) (isn't TYPE_BASE_BANG p _ quiet.generic) (isn't TYPE_BASE_DOUBLE_BANG p _ e1)))
      refl

  no_manifest : manifest_number_out_of_range s n ≡ []
  no_manifest =
      let e1 = aren't KEY_VER p _ quiet.manifest in
      let e2 = aren't DECL_SUBSYSTEM p _ e1 in
      let e3 = aren't DECL_STACKRESERVE p _ e2 in
      let e4 = aren't ASSEMBLY_ITEM_HASH p _ e3 in
      let e5 = aren't DECL_IMAGEBASE p _ e4 in
      let e6 = aren't DECL_FILE p _ e5 in
      skip (p == KEY_VER) _ _ [] (isn't KEY_VER p _ quiet.manifest)
      (skip (p == DECL_SUBSYSTEM) _ _ [] (isn't DECL_SUBSYSTEM p _ e1)
      (skip (p == DECL_STACKRESERVE) _ _ [] (isn't DECL_STACKRESERVE p _ e2)
      (skip (p == ASSEMBLY_ITEM_HASH) _ _ [] (isn't ASSEMBLY_ITEM_HASH p _ e3)
      (skip (p == DECL_IMAGEBASE) _ _ [] (isn't DECL_IMAGEBASE p _ e4)
      (skip (p == DECL_FILE) _ _ [] (isn't DECL_FILE p _ e5)
      (skip (p == DECL_CORFLAGS) _ _ [] (isn't DECL_CORFLAGS p _ e6) refl))))))

  no_flags : flags_out_of_range s n ≡ []
  no_flags =
      let e1 = aren't ASSEMBLY_ATTR_FLAGS p _ quiet.flags in
      let e2 = aren't CLASS_ATTR_FLAGS p _ e1 in
      let e3 = aren't IMPL_ATTR_FLAGS p _ e2 in
      let e4 = aren't PARAM_ATTR_FLAGS p _ e3 in
      skip (p == ASSEMBLY_ATTR_FLAGS || p == CLASS_ATTR_FLAGS) _ _ []
      (or_not (p == ASSEMBLY_ATTR_FLAGS) (p == CLASS_ATTR_FLAGS) (isn't ASSEMBLY_ATTR_FLAGS p _ quiet.flags) (isn't CLASS_ATTR_FLAGS p _ e1))
      (skip (p == IMPL_ATTR_FLAGS) _ _ [] (isn't IMPL_ATTR_FLAGS p _ e2) (skip (is_among flags_of_16_bits p) _ _ [] e4 refl))

  no_parameter_flags : parameter_flags_out_of_range s n ≡ []
  no_parameter_flags =
      let e1 = aren't ASSEMBLY_ATTR_FLAGS p _ quiet.flags in
      let e2 = aren't CLASS_ATTR_FLAGS p _ e1 in
      let e3 = aren't IMPL_ATTR_FLAGS p _ e2 in
      skip (p == PARAM_ATTR_FLAGS) _ _ [] (isn't PARAM_ATTR_FLAGS p _ e3) refl

  no_constant : constant_out_of_range s n ≡ []
  no_constant =
      let e1 = aren't CONST_INT_TYPE p _ quiet.constants in
      let e2 = aren't CONST_FLOAT32 p _ e1 in
      let e3 = aren't CONST_FLOAT64 p _ e2 in
      skip (p == CONST_INT_TYPE) _ _ [] (isn't CONST_INT_TYPE p _ quiet.constants)
      (skip (p == CONST_FLOAT32) _ _ [] (isn't CONST_FLOAT32 p _ e1)
      (skip (p == CONST_FLOAT64) _ _ [] (isn't CONST_FLOAT64 p _ e2)
      (skip (p == CONST_CHAR) _ _ [] (isn't CONST_CHAR p _ e3) refl)))

  no_class : class_too_deep n ≡ []
  no_class = skip _ _ _ [] (and_not (p == CLASS) _ (isn't CLASS p _ quiet.laid-out)) refl

  no_layout : layout_number_out_of_range s n ≡ []
  no_layout =
      let e1 = aren't CLASS p _ quiet.laid-out in
      let e2 = aren't MEMBER_PACK p _ e1 in
      let e3 = aren't MEMBER_SIZE p _ e2 in
      skip (p == MEMBER_PACK) _ _ [] (isn't MEMBER_PACK p _ e1)
      (skip (p == MEMBER_SIZE) _ _ [] (isn't MEMBER_SIZE p _ e2) (skip (p == FIELD) _ _ [] (isn't FIELD p _ e3) refl))

  no_long_data : data_too_long s n ≡ []
  no_long_data =
      let e1 = aren't CLASS p _ quiet.laid-out in
      let e2 = aren't MEMBER_PACK p _ e1 in
      let e3 = aren't MEMBER_SIZE p _ e2 in
      let e4 = aren't FIELD p _ e3 in
      skip (p == DATA) _ _ [] (isn't DATA p _ e4) refl

  no_data_number : data_number_out_of_range s n ≡ []
  no_data_number =
      let e1 = aren't CLASS p _ quiet.laid-out in
      let e2 = aren't MEMBER_PACK p _ e1 in
      let e3 = aren't MEMBER_SIZE p _ e2 in
      let e4 = aren't FIELD p _ e3 in
      let e5 = aren't DATA p _ e4 in
      skip (p == DATA_ITEM_DATA_NUM) _ _ [] (isn't DATA_ITEM_DATA_NUM p _ e5) refl

  no_label : (labels : List (List ℕ)) → label_missing labels s n ≡ []
  no_label labels =
      let e1 = aren't CLASS p _ quiet.laid-out in
      let e2 = aren't MEMBER_PACK p _ e1 in
      let e3 = aren't MEMBER_SIZE p _ e2 in
      let e4 = aren't FIELD p _ e3 in
      let e5 = aren't DATA p _ e4 in
      let e6 = aren't DATA_ITEM_DATA_NUM p _ e5 in
      skip (p == AT_NAME) _ _ [] (isn't AT_NAME p _ e6) refl

  no_barred_property : barred_in_property n ≡ []
  no_barred_property = skip (p == PROPERTY) _ _ [] (isn't PROPERTY p _ quiet.barred) refl

  no_barred_arguments : barred_arguments n ≡ []
  no_barred_arguments = skip (is_among without_arguments p) _ _ [] (aren't PROPERTY p _ quiet.barred) refl

  no_arguments : arguments_out_of_range n ≡ []
  no_arguments =
      let e1 = aren't SIGNATURE p _ quiet.shaped in
      skip (p == SIGNATURE || p == DEF_ARGS) _ _ []
      (or_not (p == SIGNATURE) (p == DEF_ARGS) (isn't SIGNATURE p _ quiet.shaped) (isn't DEF_ARGS p _ e1)) refl

  no_ellipsis : second_ellipsis n ≡ []
  no_ellipsis = skip (p == SIGNATURE) _ _ [] (isn't SIGNATURE p _ quiet.shaped) refl

  no_array : array_number s n ≡ []
  no_array =
      let e1 = aren't SIGNATURE p _ quiet.shaped in
      let e2 = aren't DEF_ARGS p _ e1 in
      skip (p == TYPE_SUFFIX_BRACKET) _ _ [] (isn't TYPE_SUFFIX_BRACKET p _ e2) refl

  no_number : number_at s n ≡ []
  no_number =
      both _ _
      (both _ _
      (both _ _
      (both _ _
      (both _ _
      (both _ _ (both _ _ (both _ _ (both _ _ (both _ _ no_manifest no_flags) no_constant) no_layout) no_data_number) no_long_data)
      no_param)
      no_barred_arguments)
      no_barred_property)
      (both _ _ (both _ _ (both _ _ (both _ _ (both _ _ no_index no_array) no_generic) no_arguments) no_ellipsis) no_parameter_flags))
      no_typars

  nothing : is_among named p ≡ false → (keys own : List (List ℕ)) (cs : List ClassName) (labels : List (List ℕ)) → broken_at keys own cs labels s n ≡ []
  nothing none keys own cs labels =
      let unnamed = no_name p n.below none in
      let named : name_broken keys own cs s n ≡ [] = ap (λ w. type_missing_in keys own cs s w ++ scope_missing_in keys own s w) unnamed in
      let path : path_too_long n ≡ [] = ap path_too_long_in unnamed in
      both _ _ (both _ _ (both _ _ (both _ _ named (both _ _ no_typar no_param_type)) (no_label labels)) no_number) (both _ _ no_class path)

pub nothing_asked : (s : Source) (n : Node) (keys own : List (List ℕ)) (cs : List ClassName) (labels : List (List ℕ)) → is_asked n.production ≡ false
    → None ≡ least (broken_at keys own cs labels s n)
nothing_asked s n keys own cs labels e =
    let quiet = is_quiet n.production e in
    sym (ap least (nothing s n quiet.0 quiet.1 keys own cs labels))

-- at a type's name no rule but those of names and of paths finds anything
pub names_asked : (s : Source) (n : Node) (keys own : List (List ℕ)) (cs : List ClassName) (labels : List (List ℕ)) → is_among named n.production ≡ true
    → broken_at keys own cs labels s n ≡ name_broken keys own cs s n ++ path_too_long n
names_asked s n keys own cs labels e =
    let quiet = named_quiet n.production e in
    let name = name_broken keys own cs s n in
    let label = label_missing labels s n in
    let number = number_at s n in
    let nesting = class_too_deep n ++ path_too_long n in
    ap (λ xs. ((name ++ xs) ++ label ++ number) ++ nesting) (both _ _ (no_typar s n quiet) (no_param_type s n quiet))
    ∙ ap (λ xs. (xs ++ label ++ number) ++ nesting) (append-nil name)
    ∙ ap (λ xs. ((name ++ xs) ++ number) ++ nesting) (no_label s n quiet labels)
    ∙ ap (λ xs. (xs ++ number) ++ nesting) (append-nil name)
    ∙ ap (λ xs. (name ++ xs) ++ nesting) (no_number s n quiet)
    ∙ ap (λ xs. xs ++ nesting) (append-nil name)
    ∙ ap (λ xs. name ++ (xs ++ path_too_long n)) (no_class s n quiet)

-- ---- a method, a class and the parameters of a method

-- neither a class nor a method
pub no_scope : (p : ℕ) → is_asked p ≡ false → is_scope p ≡ false
no_scope p e =
    let e0 = (is_quiet p e).0.laid-out in
    let e1 = aren't CLASS p _ e0 in
    let e2 = aren't MEMBER_PACK p _ e1 in
    let e3 = aren't MEMBER_SIZE p _ e2 in
    let e4 = aren't FIELD p _ e3 in
    let e5 = aren't DATA p _ e4 in
    let e6 = aren't DATA_ITEM_DATA_NUM p _ e5 in
    let e7 = aren't AT_NAME p _ e6 in
    or_not (p == CLASS) (p == METHOD) (isn't CLASS p _ e0) (isn't METHOD p _ e7)

module _ (s : Source) (n : Node) (keys own : List (List ℕ)) (cs : List ClassName) (labels : List (List ℕ)) where
  -- what is found, were this its production
  abbrev found_as : ℕ → List ℕ
  found_as p = broken_at keys own cs labels s (record { production = p; below = n.below; around = n.around })

  -- no rule speaks of a method itself
  pub method_asked : n.production ≡ METHOD → None ≡ least (broken_at keys own cs labels s n)
  method_asked e = sym (ap (λ p. least (found_as p)) e)

  pub class_asked : n.production ≡ CLASS → least (class_too_deep n) ≡ least (broken_at keys own cs labels s n)
  class_asked e = sym (ap least (ap found_as e ∙ append-nil _ ∙ ap (λ p. class_too_deep (record { production = p; below = n.below; around = n.around })) (sym e)))

  pub parameters_asked : n.production ≡ DEF_ARGS → least (arguments_out_of_range n) ≡ least (broken_at keys own cs labels s n)
  parameters_asked e =
      sym (ap least (ap found_as e ∙ append-nil _ ∙ append-nil _ ∙ append-nil _ ∙ append-nil _
      ∙ ap (λ p. arguments_out_of_range (record { production = p; below = n.below; around = n.around })) (sym e)))
