-- Methods grow.
use Rattle.std.proofs.Common.{◌≡◌, ℕ, suc, ◌&&◌, not, nat_eq, Bool, true, false, cond, List, [], ◌∷◌, map, length, Option, None, Some, refl}
use Rattle.std.proofs.lemmas.Bool.{and_parts}
use Rattle.std.specs.List.{list_all, flat_map}
use Rattle.ilasm_grammar.specs.Ilasm.{ilasm, rule_by}
use Rattle.ilasm_grammar.specs.declared.nonterminals.TheConstants as n
use Rattle.ilasm_grammar.specs.declared.productions.TheConstants as p
use Rattle.ilasm_grammar.specs.declared.symbol.Symbol.{Symbol}
use Rattle.ilasm_grammar.specs.declared.symbol.Symbol.TheVariants.{Nonterminal}
use Rattle.type_terms.specs.declared.reference.MethodRef.{MethodRef}
use Rattle.type_terms.specs.declared.term.SigType.{SigType}
use Rattle.assembly_tree.specs.WellFormedBodies.{is_body}
use Rattle.assembly_tree.specs.WellFormedMembers.{is_attribute, is_generic, is_param, is_method}
use Rattle.assembly_tree.specs.WellFormedNames.{option_all}
use Rattle.assembly_tree.specs.WellFormedTerms.{is_plain_ref}
use Rattle.assembly_tree.specs.declared.assembly.Assembly.{Assembly}
use Rattle.assembly_tree.specs.declared.assembly.ExternAssembly.{ExternAssembly}
use Rattle.assembly_tree.specs.declared.body.Body.{Body}
use Rattle.assembly_tree.specs.declared.members.Attribute.{Attribute}
use Rattle.assembly_tree.specs.declared.members.Generic.{Generic}
use Rattle.assembly_tree.specs.declared.members.Method.{Method}
use Rattle.assembly_tree.specs.declared.members.Param.{Param}
use Rattle.assembly_tree.proofs.FormedFacts.{methods_named}
use Rattle.listing_model.specs.Flags.{flags_below}
use Rattle.listing_model.specs.Grown.{head_of, body_of, Grows}
use Rattle.listing_model.specs.Members.{typar_line, typar_lines}
use Rattle.listing_model.specs.Methods.{row_of, wants_line, param_line, typar_item, parameter, parameters, def_args, row_lines, override, entrypoint, body_opt, method_items, method}
use Rattle.listing_model.specs.Shown.{Shown, none, Item, branch, when}
use Rattle.listing_model.specs.Types.{name}
use Rattle.listing_model.specs.Values.{customs}
use Rattle.listing_growth.specs.Held.{are_attributes_held, is_generic_held, is_param_held, is_method_ref_held, is_body_held, is_method_held}
use Rattle.listing_growth.specs.Laws.{Stands}
use Rattle.listing_growth.specs.Standing.{can_stand, all_stand}
use Rattle.listing_growth.proofs.Accessors.{customs_stand}
use Rattle.listing_growth.proofs.Bodies.{body_stands}
use Rattle.listing_growth.proofs.Flags.{methods_grow, implementations_grow, parameters_grow}
use Rattle.listing_growth.proofs.Formed.{signature_may, plain_ref_may, generics_may}
use Rattle.listing_growth.proofs.Members.{typars_grow}
use Rattle.listing_growth.proofs.References.{name_option, flags_row, convention_grows, name_stands, method_ref_stands}
use Rattle.listing_growth.proofs.Rows.{EachStands, each_append, each_both, IsOption, OptionGrows, optional_stands, IsRow, star_stands, IsCommas, commas_grow}
use Rattle.listing_growth.proofs.Types.{types_stand}
use Rattle.listing_growth.proofs.Values.{constant_grows}

pub when_grows : (symbols : List Symbol) (b : Bool) (g : Shown) → Grows symbols g → OptionGrows symbols (when b g)
when_grows symbols true g h = h
when_grows symbols false g h = tt

-- ---- generic parameters with attributes

typar_line_by : {x : ℕ} (b : Bool) (head : Item) (rest : List Item) → Stands x head → EachStands x rest → EachStands x (cond b [] (head ∷ rest))
typar_line_by true head rest h k = tt
typar_line_by false head rest h k = (h, k)

typar_line_stands : (a : Assembly) {x : ℕ} (head : ℕ → Item) (production : ℕ) → ((k : ℕ) → Stands x (head k)) → head_of production ≡ Some x →
    body_of production ≡ Nonterminal n.CUSTOM ∷ [] → (externs : List ExternAssembly) (k : ℕ) (g : Generic) → is_generic a g ≡ true →
    is_generic_held g ≡ true → EachStands x (typar_line externs head production k g)
unfolding is_generic is_generic_held
typar_line_stands a head production heads of_head of_body externs k g m h =
    typar_line_by (nat_eq (length g.attributes) 0) (head k) (customs externs production g.attributes) (heads k)
    (customs_stand a production of_head of_body externs g.attributes (and_parts _ _ m).1 (and_parts _ _ h).1)

-- the lines for generic parameters: heads that name them, and their attributes
pub typar_lines_stand : (a : Assembly) {x : ℕ} (head : ℕ → Item) (production : ℕ) → ((k : ℕ) → Stands x (head k)) → head_of production ≡ Some x →
    body_of production ≡ Nonterminal n.CUSTOM ∷ [] → (externs : List ExternAssembly) (k : ℕ) (gs : List Generic) →
    list_all (is_generic a) gs ≡ true → list_all is_generic_held gs ≡ true → EachStands x (typar_lines externs head production k gs)
typar_lines_stand a head production heads of_head of_body externs k [] m h = tt
typar_lines_stand a {x = x} head production heads of_head of_body externs k (g ∷ gs) m h =
    let ms = and_parts (is_generic a g) (list_all (is_generic a) gs) m in
    let hs = and_parts (is_generic_held g) (list_all is_generic_held gs) h in
    each_append x (typar_line externs head production k g) (typar_lines externs head production (suc k) gs)
    (typar_line_stands a head production heads of_head of_body externs k g ms.0 hs.0)
    (typar_lines_stand a head production heads of_head of_body externs (suc k) gs ms.1 hs.1)

-- ---- parameters in the head

args_option : IsOption n.DEF_ARGS_OPT p.DEF_ARGS_OPT_SOME p.DEF_ARGS_OPT_NONE (Nonterminal n.DEF_ARGS ∷ [])
unfolding ilasm rule_by
args_option = record { some_head = refl; some_body = refl; none_head = refl; none_body = refl }

arg_commas : IsCommas n.DEF_ARG n.COMMA_DEF_ARG_STAR p.COMMA_DEF_ARG p.COMMA_DEF_ARG_STAR_MORE p.COMMA_DEF_ARG_STAR_END n.COMMA_DEF_ARG
unfolding ilasm rule_by
arg_commas = record { row = record { more_head = refl; more_body = refl; end_head = refl; end_body = refl }; head = refl; body = refl }

flags_option : IsOption n.FLAGS_OPT p.FLAGS_OPT_SOME p.FLAGS_OPT_NONE (Nonterminal n.FLAGS ∷ [])
unfolding ilasm rule_by
flags_option = record { some_head = refl; some_body = refl; none_head = refl; none_body = refl }

item_row : IsRow n.ITEM_STAR n.ITEM p.ITEM_STAR_MORE p.ITEM_STAR_END
unfolding ilasm rule_by
item_row = record { more_head = refl; more_body = refl; end_head = refl; end_body = refl }

name_grows : (text : List ℕ) → Grows (body_of p.NAME_OPT_SOME) (name text none)
unfolding ilasm rule_by
name_grows text = (refl, tt)

flags_grow : (k : ℕ) → Grows (Nonterminal n.FLAGS ∷ []) (branch p.FLAGS (flags_below k) none)
unfolding ilasm rule_by
flags_grow k = (refl, (refl, (refl, (refl, (refl, tt)))), tt)

module _ (externs : List ExternAssembly) where
  parameter_stands : (row : Option Param) (t : SigType) → can_stand t ≡ true → Stands n.DEF_ARG (parameter externs row t)
  unfolding ilasm rule_by
  parameter_stands None t h =
      let flags = star_stands flags_row [] tt in
      let of = types_stand externs t h in
      let name = optional_stands name_option None tt in
      (refl, (flags.0, flags.1, (of.0, of.1, (name.0, name.1, tt))))
  parameter_stands (Some r) t h =
      let flags = parameters_grow r.flags in
      let of = types_stand externs t h in
      let called = optional_stands name_option (when (not (nat_eq (length r.name) 0)) (name r.name none)) (when_grows (body_of p.NAME_OPT_SOME) (not (nat_eq (length r.name) 0)) (name r.name none) (name_grows r.name)) in
      (refl, (flags.0, flags.1, (of.0, of.1, (called.0, called.1, tt))))

  parameters_stand : (rows : List Param) (k : ℕ) (ts : List SigType) → all_stand ts ≡ true → EachStands n.DEF_ARG (parameters externs rows k ts)
  parameters_stand rows k [] h = tt
  parameters_stand rows k (t ∷ ts) h =
      let hs = and_parts (can_stand t) (all_stand ts) h in (parameter_stands (row_of rows k) t hs.0, parameters_stand rows (suc k) ts hs.1)

  args_grow : (is : List Item) → EachStands n.DEF_ARG is → OptionGrows (Nonterminal n.DEF_ARGS ∷ []) (def_args externs is)
  unfolding ilasm rule_by
  args_grow [] h = tt
  args_grow (i ∷ is) h = (refl, commas_grow arg_commas i is h [] none tt, tt)

  -- ---- items

  param_line_stands : (r : Param) → Stands n.ITEM (param_line r)
  unfolding ilasm rule_by
  param_line_stands r =
      let said = nat_eq r.number 0 && not (nat_eq r.flags 0) in
      let flags = optional_stands flags_option (when said (branch p.FLAGS (flags_below r.flags) none)) (when_grows (Nonterminal n.FLAGS ∷ []) said (branch p.FLAGS (flags_below r.flags) none) (flags_grow r.flags)) in
      let value = constant_grows r.constant [] none tt in
      (refl, (refl, (refl, (refl, (refl, (refl, (flags.0, flags.1, (value.0, value.1, tt))))), tt)))

  pub typar_item_stands : (k : ℕ) → Stands n.ITEM (typar_item k)
  unfolding ilasm rule_by
  typar_item_stands k = (refl, (refl, (refl, (refl, (refl, (refl, (refl, (refl, tt))), tt)), tt)))

  item_customs : (a : Assembly) (xs : List Attribute) → list_all (is_attribute a) xs ≡ true → are_attributes_held xs ≡ true →
      EachStands n.ITEM (customs externs p.ITEM_CUSTOM xs)
  unfolding ilasm rule_by
  item_customs a xs = customs_stand a p.ITEM_CUSTOM refl refl externs xs

  rows_by : (r : Param) (b : Bool) → EachStands n.ITEM (customs externs p.ITEM_CUSTOM r.attributes) →
      EachStands n.ITEM (cond b (param_line r ∷ customs externs p.ITEM_CUSTOM r.attributes) [])
  rows_by r true h = (param_line_stands r, h)
  rows_by r false h = tt

  row_stands : (a : Assembly) (r : Param) → is_param a r ≡ true → is_param_held r ≡ true → EachStands n.ITEM (row_lines externs r)
  unfolding is_param is_param_held
  row_stands a r m h = rows_by r (wants_line r) (item_customs a r.attributes (and_parts _ _ m).1 (and_parts _ _ h).1)

  each_row : (a : Assembly) (rs : List Param) → list_all (is_param a) rs ≡ true → list_all is_param_held rs ≡ true →
      EachStands n.ITEM (flat_map (row_lines externs) rs)
  each_row a [] m h = tt
  each_row a (r ∷ rs) m h =
      let ms = and_parts (is_param a r) (list_all (is_param a) rs) m in
      let hs = and_parts (is_param_held r) (list_all is_param_held rs) h in
      each_append n.ITEM (row_lines externs r) (flat_map (row_lines externs) rs) (row_stands a r ms.0 hs.0) (each_row a rs ms.1 hs.1)

  override_stands : (a : Assembly) (r : MethodRef) → is_plain_ref a r ≡ true → is_method_ref_held r ≡ true → Stands n.ITEM (override externs r)
  unfolding ilasm rule_by
  override_stands a r m h =
      let s = method_ref_stands externs r (plain_ref_may a r m h) in (refl, (refl, (refl, (refl, (s.0, s.1, tt)), tt)))

  entry_stands : (b : Bool) → EachStands n.ITEM (entrypoint externs b)
  unfolding ilasm rule_by
  entry_stands true = ((refl, (refl, tt)), tt)
  entry_stands false = tt

  body_stands_if : (a : Assembly) (b : Option Body) → option_all (is_body a) b ≡ true → option_all is_body_held b ≡ true → EachStands n.ITEM (body_opt externs b)
  body_stands_if a None m h = tt
  body_stands_if a (Some b) m h = body_stands externs a b m h

  item_typars : (a : Assembly) (gs : List Generic) → list_all (is_generic a) gs ≡ true → list_all is_generic_held gs ≡ true →
      EachStands n.ITEM (typar_lines externs typar_item p.ITEM_CUSTOM 1 gs)
  unfolding ilasm rule_by
  item_typars a gs m h = typar_lines_stand a typar_item p.ITEM_CUSTOM typar_item_stands refl refl externs 1 gs m h

  pub method_item_stands : (a : Assembly) (x : Method) → is_method a x ≡ true → is_method_held x ≡ true → Stands n.METHOD (method externs x)
  unfolding ilasm rule_by method is_method_held
  method_item_stands a x m h =
      let f = (methods_named a x).0 m in
      let h7 = and_parts _ _ h in
      let h6 = and_parts _ _ h7.0 in
      let h5 = and_parts _ _ h6.0 in
      let h4 = and_parts _ _ h5.0 in
      let h3 = and_parts _ _ h4.0 in
      let h2 = and_parts _ _ h3.0 in
      let sign = and_parts _ _ (signature_may a x.sig f.sig h2.1) in
      let flags = methods_grow x.flags in
      let how = convention_grows x.sig [] none tt in
      let ret = types_stand externs x.sig.ret sign.0 in
      let called = name_stands x.name in
      let typars = typars_grow externs x.generics (generics_may a x.generics f.generics h3.1) [] none tt in
      let args = optional_stands args_option (def_args externs (parameters externs x.params 1 x.sig.params)) (args_grow (parameters externs x.params 1 x.sig.params) (parameters_stand x.params 1 x.sig.params sign.1)) in
      let impl = implementations_grow x.impl_flags in
      let items =
      star_stands item_row (method_items externs x)
      (each_append n.ITEM (customs externs p.ITEM_CUSTOM x.attributes) _ (item_customs a x.attributes f.attributes h7.1)
      (each_append n.ITEM (typar_lines externs typar_item p.ITEM_CUSTOM 1 x.generics) _ (item_typars a x.generics f.generics h3.1)
      (each_append n.ITEM (flat_map (row_lines externs) x.params) _ (each_row a x.params f.params h4.1)
      (each_append n.ITEM (map (override externs) x.overrides) _ (each_both n.ITEM (override externs) (is_plain_ref a) is_method_ref_held (override_stands a) x.overrides f.overrides h5.1)
      (each_append n.ITEM (entrypoint externs x.entry) _ (entry_stands x.entry) (body_stands_if a x.body f.body h6.1)))))) in
      (refl, (refl, (flags.0, flags.1, (how.0, how.1, (ret.0, ret.1, (called.0, called.1, (typars.0, typars.1, (refl, (args.0, args.1, (refl, (impl.0, impl.1, (refl, (items.0, items.1, (refl, tt))))))))))))))
