-- What is drawn of a method, piece by piece.
use Rattle.std.proofs.Common.{◌≡◌, ℕ, Bool, true, false, cond, List, [], ◌∷◌, ◌++◌, map, fold, Option, None, Some, refl, ap, sym, ◌∙◌}
use Rattle.std.specs.List.{flat_map}
use Rattle.il_lexer.specs.declared.word.TheConstants as word
use Rattle.ilasm_grammar.specs.declared.nonterminals.TheConstants as n
use Rattle.ilasm_grammar.specs.declared.productions.TheConstants as p
use Rattle.type_terms.specs.declared.reference.MethodRef.{MethodRef}
use Rattle.assembly_tree.specs.declared.assembly.ExternAssembly.{ExternAssembly}
use Rattle.assembly_tree.specs.declared.body.Body.{Body}
use Rattle.assembly_tree.specs.declared.members.Attribute.{Attribute}
use Rattle.assembly_tree.specs.declared.members.Generic.{Generic}
use Rattle.assembly_tree.specs.declared.members.Method.{Method}
use Rattle.assembly_tree.specs.declared.members.Param.{Param}
use Rattle.type_terms.specs.declared.term.SigType.{SigType}
use Rattle.listing_model.specs.Flags.{flag_items, method_words, implementation_words}
use Rattle.listing_model.specs.Members.{typars, typar_lines}
use Rattle.listing_model.specs.Methods.{parameters, def_args, typar_item, wants_line, param_line, row_lines, override, entrypoint, body_opt, method_items, method}
use Rattle.listing_model.specs.References.{convention, method_name}
use Rattle.listing_model.specs.Shown.{none, line, w, opt_below, star_below}
use Rattle.listing_model.specs.Types.{type_below}
use Rattle.listing_model.specs.Values.{customs}
use Rattle.print_leaves.specs.Page.{Page, drawn}
use Rattle.print_terms.specs.Rows.{under, in_row, between}
use Rattle.print_terms.proofs.Rows.{star_row, row_append, row_map}
use Rattle.print_members.specs.Rows.{customs_drawn, typars_drawn}
use Rattle.print_members.proofs.Rows.{row_flat, fold_same, customs_are, typars_are}
use Rattle.print_methods.proofs.ParamRows.{args_drawn}
use Rattle.print_methods.specs.Pieces.{method_head, row_step, entry_drawn}

module _ (externs : List ExternAssembly) where
  pub head_done : (q a b c d e f g h i new : Page) (m : Method) (flags impl : ℕ) (text : List ℕ) (generics : List Generic) (rows : List Param) (types : List SigType) →
      flags ≡ m.flags → impl ≡ m.impl_flags → text ≡ m.name → generics ≡ m.generics → rows ≡ m.params → types ≡ m.sig.params →
      a ≡ drawn q (line word.DOT_METHOD none) → b ≡ in_row a (flag_items n.METHOD_ATTR p.METHOD_ATTR_FLAGS method_words flags) →
      c ≡ drawn b (convention m.sig none) → d ≡ drawn c (type_below externs m.sig.ret) → e ≡ under d (method_name text) →
      f ≡ drawn e (opt_below (typars externs generics)) → g ≡ drawn f (w word.OPEN_PAREN none) → h ≡ between g (parameters externs rows 1 types) →
      i ≡ drawn h (w word.CLOSE_PAREN none) → new ≡ in_row i (flag_items n.IMPL_ATTR p.IMPL_ATTR_FLAGS implementation_words impl) →
      new ≡ drawn q (method_head externs m)
  head_done q a b c d e f g h i new m flags impl text generics rows types ef ei et eg er ep ha hb hc hd he hf hg hh hi hn =
      let first = drawn q (line word.DOT_METHOD none) in
      let words = flag_items n.METHOD_ATTR p.METHOD_ATTR_FLAGS method_words m.flags in
      let implements = flag_items n.IMPL_ATTR p.IMPL_ATTR_FLAGS implementation_words m.impl_flags in
      let said = drawn first (star_below p.METHOD_ATTR_STAR_MORE p.METHOD_ATTR_STAR_END words) in
      let typed = drawn (drawn said (convention m.sig none)) (type_below externs m.sig.ret) in
      let named = under typed (method_name m.name) in
      let opened = drawn (drawn named (opt_below (typars externs m.generics))) (w word.OPEN_PAREN none) in
      let shut = drawn (drawn opened (opt_below (def_args externs (parameters externs m.params 1 m.sig.params)))) (w word.CLOSE_PAREN none) in
      let fb : b ≡ said =
      hb ∙ (ap (λ k. in_row a (flag_items n.METHOD_ATTR p.METHOD_ATTR_FLAGS method_words k)) ef
      ∙ (ap (λ r. in_row r words) ha ∙ sym (star_row p.METHOD_ATTR_STAR_MORE p.METHOD_ATTR_STAR_END first words))) in
      let fd : d ≡ typed = hd ∙ ap (λ r. drawn r (type_below externs m.sig.ret)) (hc ∙ ap (λ r. drawn r (convention m.sig none)) fb) in
      let fe : e ≡ named = he ∙ (ap (λ t. under d (method_name t)) et ∙ ap (λ r. under r (method_name m.name)) fd) in
      let fg : g ≡ opened =
      hg ∙ ap (λ r. drawn r (w word.OPEN_PAREN none))
      (hf ∙ (ap (λ gs. drawn e (opt_below (typars externs gs))) eg ∙ ap (λ r. drawn r (opt_below (typars externs m.generics))) fe)) in
      let fh : h ≡ drawn opened (opt_below (def_args externs (parameters externs m.params 1 m.sig.params))) =
      hh ∙ (ap (λ rs. between g (parameters externs rs 1 types)) er
      ∙ (ap (λ ts. between g (parameters externs m.params 1 ts)) ep
      ∙ (ap (λ r. between r (parameters externs m.params 1 m.sig.params)) fg ∙ sym (args_drawn externs m.params opened m.sig.params)))) in
      let fi : i ≡ shut = hi ∙ ap (λ r. drawn r (w word.CLOSE_PAREN none)) fh in
      hn
      ∙ (ap (λ k. in_row i (flag_items n.IMPL_ATTR p.IMPL_ATTR_FLAGS implementation_words k)) ei
      ∙ (ap (λ r. in_row r implements) fi ∙ sym (star_row p.IMPL_ATTR_STAR_MORE p.IMPL_ATTR_STAR_END shut implements)))

  row_by : (q : Page) (r : Param) (t : Bool) →
      in_row q (cond t (param_line r ∷ customs externs p.ITEM_CUSTOM r.attributes) []) ≡ cond t (customs_drawn externs (under q (param_line r)) r.attributes) q
  row_by q r true = customs_are externs p.ITEM_CUSTOM (under q (param_line r)) r.attributes
  row_by q r false = refl

  rows_are : (q : Page) (rs : List Param) → in_row q (flat_map (row_lines externs) rs) ≡ fold (row_step externs) q rs
  rows_are q rs =
      row_flat (row_lines externs) q rs ∙ fold_same (λ x r. in_row x (row_lines externs r)) (row_step externs) (λ x r. row_by x r (wants_line r)) q rs

  entry_is : (q : Page) (t : Bool) → entry_drawn q t ≡ in_row q (entrypoint externs t)
  entry_is q true = refl
  entry_is q false = refl

  overrides_are : (q : Page) (rs : List MethodRef) → in_row q (map (override externs) rs) ≡ fold (λ x r. under x (override externs r)) q rs
  overrides_are q rs = row_map (override externs) q rs

  pub items_done : (q a b c d e new : Page) (m : Method) (attributes : List Attribute) (generics : List Generic) (rows : List Param) (overrides : List MethodRef) →
      attributes ≡ m.attributes → generics ≡ m.generics → rows ≡ m.params → overrides ≡ m.overrides →
      a ≡ customs_drawn externs q attributes → b ≡ typars_drawn externs a 1 generics → c ≡ fold (row_step externs) b rows →
      d ≡ fold (λ x r. under x (override externs r)) c overrides → e ≡ entry_drawn d m.entry → new ≡ in_row e (body_opt externs m.body) →
      new ≡ in_row q (method_items externs m)
  items_done q a b c d e new m attributes generics rows overrides ea eg er eo ha hb hc hd he hn =
      let i5 = body_opt externs m.body in
      let i4 = entrypoint externs m.entry ++ i5 in
      let i3 = map (override externs) m.overrides ++ i4 in
      let i2 = flat_map (row_lines externs) m.params ++ i3 in
      let i1 = typar_lines externs typar_item p.ITEM_CUSTOM 1 m.generics ++ i2 in
      let fa : a ≡ in_row q (customs externs p.ITEM_CUSTOM m.attributes) =
      ha ∙ (ap (λ xs. customs_drawn externs q xs) ea ∙ sym (customs_are externs p.ITEM_CUSTOM q m.attributes)) in
      let fb : b ≡ in_row a (typar_lines externs typar_item p.ITEM_CUSTOM 1 m.generics) =
      hb ∙ (ap (λ xs. typars_drawn externs a 1 xs) eg ∙ sym (typars_are externs typar_item p.ITEM_CUSTOM 1 a m.generics (λ r j. refl))) in
      let fc : c ≡ in_row b (flat_map (row_lines externs) m.params) =
      hc ∙ (ap (λ xs. fold (row_step externs) b xs) er ∙ sym (rows_are b m.params)) in
      let fd : d ≡ in_row c (map (override externs) m.overrides) =
      hd ∙ (ap (λ xs. fold (λ x r. under x (override externs r)) c xs) eo ∙ sym (overrides_are c m.overrides)) in
      let ge : new ≡ in_row d i4 = hn ∙ (ap (λ x. in_row x i5) (he ∙ entry_is d m.entry) ∙ sym (row_append d (entrypoint externs m.entry) i5)) in
      let gd : new ≡ in_row c i3 = ge ∙ (ap (λ x. in_row x i4) fd ∙ sym (row_append c (map (override externs) m.overrides) i4)) in
      let gc : new ≡ in_row b i2 = gd ∙ (ap (λ x. in_row x i3) fc ∙ sym (row_append b (flat_map (row_lines externs) m.params) i3)) in
      let gb : new ≡ in_row a i1 = gc ∙ (ap (λ x. in_row x i2) fb ∙ sym (row_append a (typar_lines externs typar_item p.ITEM_CUSTOM 1 m.generics) i2)) in
      gb ∙ (ap (λ x. in_row x i1) fa ∙ sym (row_append q (customs externs p.ITEM_CUSTOM m.attributes) i1))

  pub method_done : (q a b c new : Page) (m : Method) → a ≡ drawn q (method_head externs m) → b ≡ drawn a (line word.OPEN_BRACE none) →
      c ≡ in_row b (method_items externs m) → new ≡ drawn c (line word.CLOSE_BRACE none) → new ≡ under q (method externs m)
  unfolding method
  method_done q a b c new m ha hb hc hn =
      let opened = drawn (drawn q (method_head externs m)) (line word.OPEN_BRACE none) in
      hn
      ∙ ap (λ x. drawn x (line word.CLOSE_BRACE none))
      (hc ∙ (ap (λ x. in_row x (method_items externs m)) (hb ∙ ap (λ x. drawn x (line word.OPEN_BRACE none)) ha)
      ∙ sym (star_row p.ITEM_STAR_MORE p.ITEM_STAR_END opened (method_items externs m))))
