-- Pieces of a method, drawn one after the other.
use Rattle.std.specs.Prelude.{Bool, if◌then◌else◌, List}
use Rattle.il_lexer.specs.declared.word.TheConstants as word
use Rattle.ilasm_grammar.specs.declared.nonterminals.TheConstants as n
use Rattle.ilasm_grammar.specs.declared.productions.TheConstants as p
use Rattle.assembly_tree.specs.declared.assembly.ExternAssembly.{ExternAssembly}
use Rattle.assembly_tree.specs.declared.members.Method.{Method}
use Rattle.assembly_tree.specs.declared.members.Param.{Param}
use Rattle.listing_model.specs.Flags.{flag_items, method_words, implementation_words}
use Rattle.listing_model.specs.Members.{typars_opt}
use Rattle.listing_model.specs.Methods.{parameters, def_args, wants_line, param_line}
use Rattle.listing_model.specs.References.{convention, method_name}
use Rattle.listing_model.specs.Shown.{Shown, none, put, w, line, optional, star}
use Rattle.listing_model.specs.Types.{type_of}
use Rattle.print_leaves.specs.Page.{Page, drawn}
use Rattle.print_terms.specs.Rows.{under}
use Rattle.print_members.specs.Rows.{customs_drawn}

module _ (externs : List ExternAssembly) where
  -- what stands before the braces of a method
  abbrev pub method_head : Method → Shown
  method_head m =
      line word.DOT_METHOD
      (star p.METHOD_ATTR_STAR_MORE p.METHOD_ATTR_STAR_END (flag_items n.METHOD_ATTR p.METHOD_ATTR_FLAGS method_words m.flags)
      (convention m.sig
      (put (type_of externs m.sig.ret)
      (put (method_name m.name)
      (typars_opt externs m.generics
      (w word.OPEN_PAREN
      (optional p.DEF_ARGS_OPT_SOME p.DEF_ARGS_OPT_NONE (def_args externs (parameters externs m.params 1 m.sig.params))
      (w word.CLOSE_PAREN
      (star p.IMPL_ATTR_STAR_MORE p.IMPL_ATTR_STAR_END
      (flag_items n.IMPL_ATTR p.IMPL_ATTR_FLAGS implementation_words m.impl_flags) none)))))))))

  -- the line of a row with its attributes, where it wants one
  abbrev pub row_step : Page → Param → Page
  row_step q r = if wants_line r then customs_drawn externs (under q (param_line r)) r.attributes else q

-- the line of the entry point
abbrev pub entry_drawn : Page → Bool → Page
entry_drawn q entry = if entry then drawn q (line word.DOT_ENTRYPOINT none) else q
