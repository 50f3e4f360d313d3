-- Generic parameters and fields grow.
use Rattle.std.proofs.Common.{◌≡◌, ℕ, ◌+◌, true, List, [], ◌∷◌, map, Option, None, Some, refl}
use Rattle.std.proofs.lemmas.Bool.{and_parts}
use Rattle.std.specs.Prelude.{option_map}
use Rattle.ilasm_grammar.specs.Ilasm.{ilasm, rule_by}
use Rattle.ilasm_grammar.specs.declared.nonterminals.TheConstants as n
use Rattle.ilasm_grammar.specs.declared.productions.TheConstants as p
use Rattle.ilasm_grammar.specs.declared.symbol.Symbol.{Symbol}
use Rattle.ilasm_grammar.specs.declared.symbol.Symbol.TheVariants.{Terminal, Nonterminal}
use Rattle.ilasm_grammar.specs.declared.terminals.TheConstants.{WORDS, NAME}
use Rattle.il_lexer.specs.declared.types.TokenKind.TheVariants as kind
use Rattle.il_lexer.specs.declared.word.TheConstants as word
use Rattle.type_terms.specs.declared.term.Owner.{Owner}
use Rattle.assembly_tree.specs.declared.assembly.ExternAssembly.{ExternAssembly}
use Rattle.assembly_tree.specs.declared.members.Field.{Field}
use Rattle.assembly_tree.specs.declared.members.Generic.{Generic}
use Rattle.listing_leaves.specs.Numbers.{data_label}
use Rattle.listing_model.specs.Flags.{flag_items, typar_words, field_words}
use Rattle.listing_model.specs.Grown.{Grows}
use Rattle.listing_model.specs.Members.{number_in_brackets, bounds, typar, typars, typars_opt, at_data, field}
use Rattle.listing_model.specs.Shown.{Shown, none, put, w, token, branch, optional, star}
use Rattle.listing_model.specs.Types.{name, type_of, owner}
use Rattle.listing_model.specs.Values.{constant_opt}
use Rattle.listing_growth.specs.Laws.{Stands, MembersStand}
use Rattle.listing_growth.specs.Standing.{can_stand, owner_can_stand, all_owners_stand, generic_stands, all_generics_stand}
use Rattle.listing_growth.proofs.Rows.{EachStands, IsOption, OptionGrows, optional_grows, star_grows, IsCommas, commas_grow}
use Rattle.listing_growth.proofs.Types.{types_stand, owners_stand}
use Rattle.listing_growth.proofs.Values.{constant_grows}
use Rattle.listing_growth.proofs.Flags.{fields_row, fields_items, typars_row, typars_items}

pub spec_commas : IsCommas n.SPEC n.COMMA_SPEC_STAR p.COMMA_SPEC p.COMMA_SPEC_STAR_MORE p.COMMA_SPEC_STAR_END n.COMMA_SPEC
unfolding ilasm rule_by
spec_commas = record { row = record { more_head = refl; more_body = refl; end_head = refl; end_body = refl }; head = refl; body = refl }

typar_commas : IsCommas n.TYPAR n.COMMA_TYPAR_STAR p.COMMA_TYPAR p.COMMA_TYPAR_STAR_MORE p.COMMA_TYPAR_STAR_END n.COMMA_TYPAR
unfolding ilasm rule_by
typar_commas = record { row = record { more_head = refl; more_body = refl; end_head = refl; end_body = refl }; head = refl; body = refl }

bounds_option : IsOption n.TYPAR_BOUNDS_OPT p.TYPAR_BOUNDS_OPT_SOME p.TYPAR_BOUNDS_OPT_NONE (Nonterminal n.TYPAR_BOUNDS ∷ [])
unfolding ilasm rule_by
bounds_option = record { some_head = refl; some_body = refl; none_head = refl; none_body = refl }

typars_option : IsOption n.TYPARS_OPT p.TYPARS_OPT_SOME p.TYPARS_OPT_NONE (Nonterminal n.TYPARS ∷ [])
unfolding ilasm rule_by
typars_option = record { some_head = refl; some_body = refl; none_head = refl; none_body = refl }

pub offset_option : IsOption n.BRACKETED_INT_OPT p.BRACKETED_INT_OPT_SOME p.BRACKETED_INT_OPT_NONE (Nonterminal n.BRACKETED_INT ∷ [])
unfolding ilasm rule_by
offset_option = record { some_head = refl; some_body = refl; none_head = refl; none_body = refl }

at_option : IsOption n.AT_NAME_OPT p.AT_NAME_OPT_SOME p.AT_NAME_OPT_NONE (Nonterminal n.AT_NAME ∷ [])
unfolding ilasm rule_by
at_option = record { some_head = refl; some_body = refl; none_head = refl; none_body = refl }

offset_grows : (k : Option ℕ) → OptionGrows (Nonterminal n.BRACKETED_INT ∷ []) (option_map (λ k. branch p.BRACKETED_INT (number_in_brackets k none) none) k)
unfolding ilasm rule_by
offset_grows None = tt
offset_grows (Some k) = (refl, (refl, (refl, (refl, tt))), tt)

at_grows : (k : ℕ) (content : Option (List ℕ)) →
    OptionGrows (Nonterminal n.AT_NAME ∷ []) (option_map (λ bytes. branch p.AT_NAME (w word.AT (token kind.Name (data_label k) none)) none) content)
unfolding ilasm rule_by
at_grows k None = tt
at_grows k (Some bytes) = (refl, (refl, (refl, tt)), tt)

module _ (externs : List ExternAssembly) where
  pub each_owner : (os : List Owner) → all_owners_stand os ≡ true → EachStands n.SPEC (map (owner externs) os)
  each_owner [] h = tt
  each_owner (o ∷ os) h = let hs = and_parts (owner_can_stand o) (all_owners_stand os) h in (owners_stand externs o hs.0, each_owner os hs.1)

  bounds_grow : (os : List Owner) → all_owners_stand os ≡ true → OptionGrows (Nonterminal n.TYPAR_BOUNDS ∷ []) (bounds externs os)
  unfolding ilasm rule_by
  bounds_grow [] h = tt
  bounds_grow (o ∷ os) h = (
    refl,
    (refl, commas_grow spec_commas (owner externs o) (map (owner externs) os) (each_owner (o ∷ os) h) (Terminal (WORDS + word.CLOSE_PAREN) ∷ []) (w word.CLOSE_PAREN none) (refl, tt)),
    tt,
  )

  pub typar_stands : (g : Generic) → generic_stands g ≡ true → Stands n.TYPAR (typar externs g)
  unfolding ilasm rule_by
  typar_stands g h = (
    refl,
    star_grows typars_row (flag_items n.TYPAR_ATTR p.TYPAR_ATTR_FLAGS typar_words g.flags) (typars_items g.flags)
        (Nonterminal n.TYPAR_BOUNDS_OPT ∷ Terminal NAME ∷ [])
        (optional p.TYPAR_BOUNDS_OPT_SOME p.TYPAR_BOUNDS_OPT_NONE (bounds externs g.bounds) (name g.name none))
        (optional_grows bounds_option (bounds externs g.bounds) (bounds_grow g.bounds h) (Terminal NAME ∷ []) (name g.name none) (refl, tt)),
  )

  each_typar : (gs : List Generic) → all_generics_stand gs ≡ true → EachStands n.TYPAR (map (typar externs) gs)
  each_typar [] h = tt
  each_typar (g ∷ gs) h = let hs = and_parts (generic_stands g) (all_generics_stand gs) h in (typar_stands g hs.0, each_typar gs hs.1)

  angles_grow : (gs : List Generic) → all_generics_stand gs ≡ true → OptionGrows (Nonterminal n.TYPARS ∷ []) (typars externs gs)
  unfolding ilasm rule_by
  angles_grow [] h = tt
  angles_grow (g ∷ gs) h = (
    refl,
    (refl, commas_grow typar_commas (typar externs g) (map (typar externs) gs) (each_typar (g ∷ gs) h) (Terminal (WORDS + word.GREATER) ∷ []) (w word.GREATER none) (refl, tt)),
    tt,
  )

  pub typars_grow : (gs : List Generic) → all_generics_stand gs ≡ true → (more : List Symbol) (after : Shown) → Grows more after →
      Grows (Nonterminal n.TYPARS_OPT ∷ more) (typars_opt externs gs after)
  typars_grow gs h more after k = optional_grows typars_option (typars externs gs) (angles_grow gs h) more after k

  pub field_item_stands : (k : ℕ) (f : Field) → can_stand f.of ≡ true → Stands n.FIELD (field externs k f)
  unfolding ilasm rule_by field
  field_item_stands k f h =
      let of = types_stand externs f.of h in (
        refl,
        (
          refl,
          optional_grows offset_option (option_map (λ k. branch p.BRACKETED_INT (number_in_brackets k none) none) f.offset) (offset_grows f.offset)
              (Nonterminal n.FIELD_ATTR_STAR ∷ Nonterminal n.TYPE ∷ Terminal NAME ∷ Nonterminal n.EQ_CONST_OPT ∷ Nonterminal n.AT_NAME_OPT ∷ [])
              (star p.FIELD_ATTR_STAR_MORE p.FIELD_ATTR_STAR_END (flag_items n.FIELD_ATTR p.FIELD_ATTR_FLAGS field_words f.flags)
              (put (type_of externs f.of) (name f.name (constant_opt f.constant (at_data externs k f.content none)))))
              (star_grows fields_row (flag_items n.FIELD_ATTR p.FIELD_ATTR_FLAGS field_words f.flags) (fields_items f.flags)
              (Nonterminal n.TYPE ∷ Terminal NAME ∷ Nonterminal n.EQ_CONST_OPT ∷ Nonterminal n.AT_NAME_OPT ∷ [])
              (put (type_of externs f.of) (name f.name (constant_opt f.constant (at_data externs k f.content none)))) (
                of.0,
                of.1,
                (
                  refl,
                  constant_grows f.constant (Nonterminal n.AT_NAME_OPT ∷ []) (at_data externs k f.content none)
                      (optional_grows at_option (option_map (λ bytes. branch p.AT_NAME (w word.AT (token kind.Name (data_label k) none)) none) f.content) (at_grows k f.content) [] none tt),
                ),
              )),
        ),
      )

pub members_stand : MembersStand
members_stand = record { generics = λ externs g h. typar_stands externs g h; fields = λ externs k f h. field_item_stands externs k f h }
