-- Signatures and references grow.
use Rattle.std.proofs.Common.{◌≡◌, ℕ, zero, suc, arith, ◌+◌, ◌&&◌, nat_lt, Bool, true, false, cond, List, [], ◌∷◌, map, take, drop, length, Option, None, Some, refl, sym, subst, ◌∙◌}
use Rattle.std.proofs.lemmas.Bool.{and_parts, false≢true}
use Rattle.std.specs.Prelude.{codes}
use Rattle.std.specs.Str.{bytes_eq}
use Rattle.ilasm_grammar.specs.Ilasm.{ilasm, rule_by}
use Rattle.ilasm_grammar.specs.declared.nonterminals.TheConstants as n
use Rattle.ilasm_grammar.specs.declared.productions.TheConstants as p
use Rattle.ilasm_grammar.specs.declared.symbol.Symbol.TheVariants.{Terminal, Nonterminal}
use Rattle.ilasm_grammar.specs.declared.symbol.Symbol.{Symbol}
use Rattle.ilasm_grammar.specs.declared.terminals.TheConstants.{WORDS}
use Rattle.il_lexer.specs.declared.word.TheConstants as word
use Rattle.type_terms.specs.declared.name.Scope as scope
use Rattle.type_terms.specs.declared.name.TypeId.{TypeId}
use Rattle.type_terms.specs.declared.reference.FieldRef.{FieldRef}
use Rattle.type_terms.specs.declared.reference.MethodRef.{MethodRef}
use Rattle.type_terms.specs.declared.reference.MethodSig.{MethodSig}
use Rattle.type_terms.specs.declared.term.Owner.{Owner, fold-Owner, fold_out-Owner, map-Owner, out-Owner}
use Rattle.type_terms.specs.declared.term.Owner.TheOpen as layer
use Rattle.type_terms.specs.declared.term.SigType.{SigType, fold-SigType}
use Rattle.assembly_tree.specs.WellFormedNames.{is_module}
use Rattle.assembly_tree.specs.declared.assembly.ExternAssembly.{ExternAssembly}
use Rattle.listing_model.specs.Grown.{body_of, Grows}
use Rattle.listing_model.specs.Shown.{Shown, none, Item, item, put, w, branch, optional, when}
use Rattle.listing_model.specs.Types.{type_of, name, type_id}
use Rattle.listing_model.specs.References.{instance, convention, method_name, no_name, ellipsis, with_sentinel, sig_args, in_parentheses, argument, arguments, generic_count, in_angles, method_generics, generics_and_arguments, target_end, target_path, target_here, target_in, target_of, method_ref, field_path, field_here, field_in, field_target, field_ref}
use Rattle.listing_growth.specs.Laws.{Stands, ReferencesStand}
use Rattle.listing_growth.specs.Standing.{owner_stands, type_stands, can_stand, owner_can_stand, all_stand, args_stand, signature_stands, method_stands, field_stands}
use Rattle.listing_growth.proofs.Rows.{EachStands, each_append, IsOption, OptionGrows, optional_grows, IsRow, star_grows, IsCommas, commas_grow}
use Rattle.listing_growth.proofs.Types.{path_grows, type_commas, types_stand}

-- ---- conventions

instance_option : IsOption n.INSTANCE_OPT p.INSTANCE_OPT_SOME p.INSTANCE_OPT_NONE (Nonterminal n.INSTANCE ∷ [])
unfolding ilasm rule_by
instance_option = record { some_head = refl; some_body = refl; none_head = refl; none_body = refl }

explicit_option : IsOption n.EXPLICIT_OPT p.EXPLICIT_OPT_SOME p.EXPLICIT_OPT_NONE (body_of p.EXPLICIT_OPT_SOME)
unfolding ilasm rule_by
explicit_option = record { some_head = refl; some_body = refl; none_head = refl; none_body = refl }

kind_option : IsOption n.CALL_KIND_OPT p.CALL_KIND_OPT_SOME p.CALL_KIND_OPT_NONE (Nonterminal n.CALL_KIND ∷ [])
unfolding ilasm rule_by
kind_option = record { some_head = refl; some_body = refl; none_head = refl; none_body = refl }

instance_grows : (explicit : Bool) → Grows (Nonterminal n.INSTANCE ∷ []) (instance explicit)
unfolding ilasm rule_by
instance_grows true = (refl, (refl, optional_grows explicit_option (Some (w word.EXPLICIT none)) (refl, tt) [] none tt), tt)
instance_grows false = (refl, (refl, optional_grows explicit_option None tt [] none tt), tt)

this_grows : (this explicit : Bool) → OptionGrows (Nonterminal n.INSTANCE ∷ []) (when this (instance explicit))
this_grows true explicit = instance_grows explicit
this_grows false explicit = tt

kind_grows : (vararg : Bool) → OptionGrows (Nonterminal n.CALL_KIND ∷ []) (when vararg (branch p.CALL_KIND_VARARG (w word.VARARG none) none))
unfolding ilasm rule_by
kind_grows true = (refl, (refl, tt), tt)
kind_grows false = tt

pub convention_grows : (s : MethodSig) (more : List Symbol) (after : Shown) → Grows more after → Grows (Nonterminal n.CALL_CONV ∷ more) (convention s after)
unfolding ilasm rule_by
convention_grows s more after h = (
  refl,
  optional_grows instance_option (when s.has_this (instance s.explicit_this)) (this_grows s.has_this s.explicit_this)
      (Nonterminal n.CALL_KIND_OPT ∷ [])
      (optional p.CALL_KIND_OPT_SOME p.CALL_KIND_OPT_NONE (when s.vararg (branch p.CALL_KIND_VARARG (w word.VARARG none) none)) none)
      (optional_grows kind_option (when s.vararg (branch p.CALL_KIND_VARARG (w word.VARARG none) none)) (kind_grows s.vararg) [] none tt),
  h,
)

-- ---- names

name_by : (text : List ℕ) (x y : Bool) → bytes_eq text (codes ".ctor") ≡ x → bytes_eq text (codes ".cctor") ≡ y → Stands n.METHOD_NAME (method_name text)
unfolding ilasm rule_by
name_by text true y e f = subst (λ b. Stands n.METHOD_NAME (cond b (item p.METHOD_NAME_CTOR (w word.DOT_CTOR none)) (cond (bytes_eq text (codes ".cctor")) (item p.METHOD_NAME_CCTOR (w word.DOT_CCTOR none)) (item p.METHOD_NAME_NAME (name text none))))) (sym e) (refl, (refl, tt))
name_by text false true e f =
    subst (λ b. Stands n.METHOD_NAME (cond b (item p.METHOD_NAME_CTOR (w word.DOT_CTOR none)) (cond (bytes_eq text (codes ".cctor")) (item p.METHOD_NAME_CCTOR (w word.DOT_CCTOR none)) (item p.METHOD_NAME_NAME (name text none))))) (sym e)
    (subst (λ b. Stands n.METHOD_NAME (cond b (item p.METHOD_NAME_CCTOR (w word.DOT_CCTOR none)) (item p.METHOD_NAME_NAME (name text none)))) (sym f) (refl, (refl, tt)))
name_by text false false e f =
    subst (λ b. Stands n.METHOD_NAME (cond b (item p.METHOD_NAME_CTOR (w word.DOT_CTOR none)) (cond (bytes_eq text (codes ".cctor")) (item p.METHOD_NAME_CCTOR (w word.DOT_CCTOR none)) (item p.METHOD_NAME_NAME (name text none))))) (sym e)
    (subst (λ b. Stands n.METHOD_NAME (cond b (item p.METHOD_NAME_CCTOR (w word.DOT_CCTOR none)) (item p.METHOD_NAME_NAME (name text none)))) (sym f) (refl, (refl, tt)))

pub name_stands : (text : List ℕ) → Stands n.METHOD_NAME (method_name text)
name_stands text = name_by text (bytes_eq text (codes ".ctor")) (bytes_eq text (codes ".cctor")) refl refl

-- ---- arguments

pub flags_row : IsRow n.PARAM_ATTR_STAR n.PARAM_ATTR p.PARAM_ATTR_STAR_MORE p.PARAM_ATTR_STAR_END
unfolding ilasm rule_by
flags_row = record { more_head = refl; more_body = refl; end_head = refl; end_body = refl }

pub name_option : IsOption n.NAME_OPT p.NAME_OPT_SOME p.NAME_OPT_NONE (body_of p.NAME_OPT_SOME)
unfolding ilasm rule_by
name_option = record { some_head = refl; some_body = refl; none_head = refl; none_body = refl }

args_option : IsOption n.SIG_ARGS_OPT p.SIG_ARGS_OPT_SOME p.SIG_ARGS_OPT_NONE (Nonterminal n.SIG_ARGS ∷ [])
unfolding ilasm rule_by
args_option = record { some_head = refl; some_body = refl; none_head = refl; none_body = refl }

arg_commas : IsCommas n.SIG_ARG n.COMMA_SIG_ARG_STAR p.COMMA_SIG_ARG p.COMMA_SIG_ARG_STAR_MORE p.COMMA_SIG_ARG_STAR_END n.COMMA_SIG_ARG
unfolding ilasm rule_by
arg_commas = record { row = record { more_head = refl; more_body = refl; end_head = refl; end_body = refl }; head = refl; body = refl }

generics_option : IsOption n.METHOD_GENERICS_OPT p.METHOD_GENERICS_OPT_SOME p.METHOD_GENERICS_OPT_NONE (Nonterminal n.METHOD_GENERICS ∷ [])
unfolding ilasm rule_by
generics_option = record { some_head = refl; some_body = refl; none_head = refl; none_body = refl }

args_between : (is : List Item) → EachStands n.SIG_ARG is → OptionGrows (Nonterminal n.SIG_ARGS ∷ []) (sig_args is)
unfolding ilasm rule_by
args_between [] h = tt
args_between (i ∷ is) h = (refl, commas_grow arg_commas i is h [] none tt, tt)

parentheses_grow : (is : List Item) → EachStands n.SIG_ARG is → (more : List Symbol) (after : Shown) → Grows more after →
    Grows (Nonterminal n.SIGNATURE ∷ more) (in_parentheses is after)
unfolding ilasm rule_by
parentheses_grow is h more after k = (
  refl,
  (refl, optional_grows args_option (sig_args is) (args_between is h) (Terminal (WORDS + word.CLOSE_PAREN) ∷ []) (w word.CLOSE_PAREN none) (refl, tt)),
  k,
)

ellipsis_stands : Stands n.SIG_ARG ellipsis
unfolding ilasm rule_by
ellipsis_stands = (refl, (refl, tt))

take_stands : (x k : ℕ) (is : List Item) → EachStands x is → EachStands x (take k is)
take_stands x zero is h = tt
take_stands x (suc k) [] h = tt
take_stands x (suc k) (i ∷ is) h = (h.0, take_stands x k is h.1)

drop_stands : (x k : ℕ) (is : List Item) → EachStands x is → EachStands x (drop k is)
drop_stands x zero is h = h
drop_stands x (suc k) [] h = tt
drop_stands x (suc k) (i ∷ is) h = drop_stands x k is h.1

sentinel_stands : (s : Option ℕ) (is : List Item) → EachStands n.SIG_ARG is → EachStands n.SIG_ARG (with_sentinel s is)
sentinel_stands None is h = h
sentinel_stands (Some k) is h =
    each_append n.SIG_ARG (take k is) (ellipsis ∷ drop k is) (take_stands n.SIG_ARG k is h) (ellipsis_stands, drop_stands n.SIG_ARG k is h)

module _ (externs : List ExternAssembly) where
  argument_stands : (t : SigType) → can_stand t ≡ true → Stands n.SIG_ARG (argument externs t)
  unfolding ilasm rule_by
  argument_stands t h =
      let of = types_stand externs t h in (
        refl,
        (
          refl,
          star_grows flags_row [] tt (Nonterminal n.TYPE ∷ Nonterminal n.NAME_OPT ∷ []) (put (type_of externs t) no_name)
              (of.0, of.1, optional_grows name_option None tt [] none tt),
          tt,
        ),
      )

  params_stand : (ts : List SigType) → all_stand ts ≡ true → EachStands n.SIG_ARG (map (argument externs) ts)
  params_stand [] h = tt
  params_stand (t ∷ ts) h = let hs = and_parts (can_stand t) (all_stand ts) h in (argument_stands t hs.0, params_stand ts hs.1)

  pub arguments_grow : (s : MethodSig) → all_stand s.params ≡ true → (more : List Symbol) (after : Shown) → Grows more after →
      Grows (Nonterminal n.SIGNATURE ∷ more) (arguments externs s after)
  arguments_grow s h more after k =
      parentheses_grow (with_sentinel s.sentinel (map (argument externs) s.params))
      (sentinel_stands s.sentinel (map (argument externs) s.params) (params_stand s.params h)) more after k

  each_type : (ts : List SigType) → all_stand ts ≡ true → EachStands n.TYPE (map (type_of externs) ts)
  each_type [] h = tt
  each_type (t ∷ ts) h = let hs = and_parts (can_stand t) (all_stand ts) h in (types_stand externs t hs.0, each_type ts hs.1)

  count_grows : (k : ℕ) → Grows (Nonterminal n.METHOD_GENERICS ∷ []) (in_angles externs (generic_count externs k))
  unfolding ilasm rule_by
  count_grows k = (refl, (refl, (refl, (refl, (refl, (refl, tt))), (refl, tt))), tt)

  count_by : (k : ℕ) (b : Bool) → Grows (Nonterminal n.METHOD_GENERICS ∷ []) (in_angles externs (generic_count externs k)) →
      OptionGrows (Nonterminal n.METHOD_GENERICS ∷ []) (when b (in_angles externs (generic_count externs k)))
  count_by k true h = h
  count_by k false h = tt

  angles_grow : (k : ℕ) (args : Option (List SigType)) → args_stand args ≡ true → OptionGrows (Nonterminal n.METHOD_GENERICS ∷ []) (method_generics externs k args)
  unfolding ilasm rule_by
  angles_grow k (Some []) h = absurd (false≢true h)
  angles_grow k (Some (t ∷ ts)) h = (
    refl,
    (refl, (refl, commas_grow type_commas (type_of externs t) (map (type_of externs) ts) (each_type (t ∷ ts) (and_parts (nat_lt 0 (length (t ∷ ts))) (all_stand (t ∷ ts)) h).1) [] none tt, (refl, tt))),
    tt,
  )
  angles_grow k None h = count_by k (nat_lt 0 k) (count_grows k)

  both_grow : (r : MethodRef) → signature_stands r.sig ≡ true → args_stand r.args ≡ true → (more : List Symbol) (after : Shown) → Grows more after →
      Grows (Nonterminal n.METHOD_GENERICS_OPT ∷ Nonterminal n.SIGNATURE ∷ more) (generics_and_arguments externs r after)
  both_grow r h a more after k =
      optional_grows generics_option (method_generics externs r.sig.generic r.args) (angles_grow r.sig.generic r.args a)
      (Nonterminal n.SIGNATURE ∷ more) (arguments externs r.sig after)
      (arguments_grow r.sig (and_parts (can_stand r.sig.ret) (all_stand r.sig.params) h).1 more after k)

  end_grows : (r : MethodRef) → signature_stands r.sig ≡ true → args_stand r.args ≡ true →
      Grows (Terminal (WORDS + word.DOUBLE_COLON) ∷ Nonterminal n.TARGET_END ∷ []) (target_end externs r)
  unfolding ilasm rule_by
  end_grows r h a =
      let called = name_stands r.name in (refl, (refl, (called.0, called.1, both_grow r h a [] none tt), tt))

  alone_stands : (r : MethodRef) → signature_stands r.sig ≡ true → args_stand r.args ≡ true → Stands n.TARGET (item p.TARGET_NAME (name r.name (target_path externs [] r)))
  unfolding ilasm rule_by
  alone_stands r h a = (refl, (refl, (refl, both_grow r h a [] none tt, tt)))

  one_stands : (id : TypeId) (r : MethodRef) → signature_stands r.sig ≡ true → args_stand r.args ≡ true →
      Stands n.TARGET (item p.TARGET_NAME (type_id id (target_path externs (id ∷ []) r)))
  unfolding ilasm rule_by
  one_stands id r h a = (refl, (refl, (refl, end_grows r h a, tt)))

  here_by : (id : TypeId) (r : MethodRef) (b : Bool) → signature_stands r.sig ≡ true → args_stand r.args ≡ true →
      Stands n.TARGET (cond b (item p.TARGET_NAME (name r.name (target_path externs [] r))) (item p.TARGET_NAME (type_id id (target_path externs (id ∷ []) r))))
  here_by id r true h a = alone_stands r h a
  here_by id r false h a = one_stands id r h a

  here_stands : (ids : List TypeId) (r : MethodRef) → signature_stands r.sig ≡ true → args_stand r.args ≡ true → Stands n.TARGET (target_here externs ids r)
  unfolding ilasm rule_by
  here_stands [] r h a = alone_stands r h a
  here_stands (id ∷ []) r h a = here_by id r (is_module id) h a
  here_stands (id ∷ next ∷ more) r h a =
      (refl, (refl, (refl, (refl, (refl, path_grows (next ∷ more) (grind arith), end_grows r h a)), tt)))

  in_scope : (s : scope.Scope) (ids : List TypeId) (r : MethodRef) → nat_lt 0 (length ids) ≡ true → signature_stands r.sig ≡ true →
      args_stand r.args ≡ true → Stands n.TARGET (target_in externs s ids r)
  unfolding ilasm rule_by
  in_scope scope.TheVariants.Here ids r o h a = here_stands ids r h a
  in_scope (scope.TheVariants.Extern k) ids r o h a = (refl, (refl, (refl, path_grows ids o, end_grows r h a)))

  target_stands : (l : layer.Owner-F Owner SigType) (r : MethodRef) →
      owner_stands (map-Owner Owner SigType Bool Bool (fold-Owner Bool Bool owner_stands type_stands) (fold-SigType Bool Bool owner_stands type_stands) l) ≡ true →
      signature_stands r.sig ≡ true → args_stand r.args ≡ true → Stands n.TARGET (target_of externs l r)
  unfolding ilasm rule_by can_stand
  target_stands (layer.Name t) r o h a = in_scope t.scope t.path r o h a
  target_stands (layer.Spec t) r o h a = let of = types_stand externs t o in (refl, (of.0, of.1, end_grows r h a))

  pub method_ref_stands : (r : MethodRef) → method_stands r ≡ true → Stands n.METHOD_REF (method_ref externs r)
  unfolding ilasm rule_by method_ref owner_can_stand
  method_ref_stands r h =
      let hs = and_parts (owner_can_stand r.owner) (signature_stands r.sig && args_stand r.args) h in
      let ks = and_parts (signature_stands r.sig) (args_stand r.args) hs.1 in
      let ret = types_stand externs r.sig.ret (and_parts (can_stand r.sig.ret) (all_stand r.sig.params) ks.0).0 in
      let target = target_stands (out-Owner r.owner) r (sym (fold_out-Owner Bool Bool owner_stands type_stands r.owner) ∙ hs.0) ks.0 ks.1 in (
        refl,
        convention_grows r.sig (Nonterminal n.TYPE ∷ Nonterminal n.TARGET ∷ []) (put (type_of externs r.sig.ret) (put (target_of externs (out-Owner r.owner) r) none))
            (ret.0, ret.1, (target.0, target.1, tt)),
      )

  -- ---- fields

  field_by : (id : TypeId) (r : FieldRef) (b : Bool) →
      Stands n.FIELD_TARGET (cond b (item p.FIELD_TARGET_NAME (name r.name (field_path externs [] r))) (item p.FIELD_TARGET_NAME (type_id id (field_path externs (id ∷ []) r))))
  unfolding ilasm rule_by
  field_by id r true = (refl, (refl, (refl, tt, tt)))
  field_by id r false = (refl, (refl, (refl, (refl, (refl, tt)), tt)))

  field_here_stands : (ids : List TypeId) (r : FieldRef) → Stands n.FIELD_TARGET (field_here externs ids r)
  unfolding ilasm rule_by
  field_here_stands [] r = (refl, (refl, (refl, tt, tt)))
  field_here_stands (id ∷ []) r = field_by id r (is_module id)
  field_here_stands (id ∷ next ∷ more) r =
      (refl, (refl, (refl, (refl, (refl, path_grows (next ∷ more) (grind arith), (refl, (refl, tt)))), tt)))

  field_scope : (s : scope.Scope) (ids : List TypeId) (r : FieldRef) → nat_lt 0 (length ids) ≡ true → Stands n.FIELD_TARGET (field_in externs s ids r)
  unfolding ilasm rule_by
  field_scope scope.TheVariants.Here ids r o = field_here_stands ids r
  field_scope (scope.TheVariants.Extern k) ids r o = (refl, (refl, (refl, path_grows ids o, (refl, (refl, tt)))))

  field_target_stands : (l : layer.Owner-F Owner SigType) (r : FieldRef) →
      owner_stands (map-Owner Owner SigType Bool Bool (fold-Owner Bool Bool owner_stands type_stands) (fold-SigType Bool Bool owner_stands type_stands) l) ≡ true →
      Stands n.FIELD_TARGET (field_target externs l r)
  unfolding ilasm rule_by can_stand
  field_target_stands (layer.Name t) r o = field_scope t.scope t.path r o
  field_target_stands (layer.Spec t) r o = let of = types_stand externs t o in (refl, (of.0, of.1, (refl, (refl, tt))))

  pub field_ref_stands : (r : FieldRef) → field_stands r ≡ true → Stands n.FIELD_REF (field_ref externs r)
  unfolding ilasm rule_by field_ref owner_can_stand
  field_ref_stands r h =
      let hs = and_parts (owner_can_stand r.owner) (can_stand r.of) h in
      let of = types_stand externs r.of hs.1 in
      let target = field_target_stands (out-Owner r.owner) r (sym (fold_out-Owner Bool Bool owner_stands type_stands r.owner) ∙ hs.0) in
      (refl, (of.0, of.1, (target.0, target.1, tt)))

pub references_stand : ReferencesStand
references_stand = record { methods = method_ref_stands; fields = field_ref_stands }
