-- Rows of flags grow.
use Rattle.std.proofs.Common.{ℕ, Bool, true, false, cond, nat_eq, List, [], ◌∷◌, ◌++◌, map, filter, refl}
use Rattle.ilasm_grammar.specs.Ilasm.{ilasm, rule_by, picked, picked_by}
use Rattle.ilasm_grammar.specs.declared.nonterminals.TheConstants as n
use Rattle.ilasm_grammar.specs.declared.productions.TheConstants as p
use Rattle.ilasm_grammar.specs.declared.symbol.Symbol.TheVariants.{Nonterminal}
use Rattle.listing_model.specs.Grown.{Grows}
use Rattle.listing_model.specs.Shown.{none, Item, item, branch, star}
use Rattle.listing_model.specs.Flags.{FlagWord, holds, said, rest_of, without_bits, word_item, flags_below, rest_items, flag_items, nested_item, type_flag_items, type_access, nested_access, type_words, field_words, method_words, implementation_words, parameter_words, property_words, typar_words, assembly_words}
use Rattle.listing_growth.specs.Laws.{Stands, FlagsStand}
use Rattle.listing_growth.proofs.Rows.{EachStands, each_append, IsRow, star_grows}

-- what stands for each word of a table stands for those that are said
said_by : (x k : ℕ) (f : FlagWord → Item) (y : FlagWord) (ys : List FlagWord) (b : Bool) → Stands x (f y) → EachStands x (map f (filter (holds k) ys)) →
    EachStands x (map f (cond b (y ∷ filter (holds k) ys) (filter (holds k) ys)))
said_by x k f y ys true h rest = (h, rest)
said_by x k f y ys false h rest = rest

said_stand : (x k : ℕ) (f : FlagWord → Item) (ys : List FlagWord) → EachStands x (map f ys) → EachStands x (map f (said ys k))
said_stand x k f [] h = tt
said_stand x k f (y ∷ ys) h = said_by x k f y ys (holds k y) h.0 (said_stand x k f ys h.1)

rest_by : (x production k : ℕ) (b : Bool) → Stands x (item production (branch p.FLAGS (flags_below k) none)) →
    EachStands x (cond b [] (item production (branch p.FLAGS (flags_below k) none) ∷ []))
rest_by x production k true h = tt
rest_by x production k false h = (h, tt)

row_stands : (x production : ℕ) (words : List FlagWord) → EachStands x (map (λ y. word_item x y.word) words) →
    ((k : ℕ) → Stands x (item production (branch p.FLAGS (flags_below k) none))) → (k : ℕ) → EachStands x (flag_items x production words k)
row_stands x production words h number k =
    each_append x (map (λ y. word_item x y.word) (said words k)) (rest_items production (rest_of words k))
    (said_stand x k (λ y. word_item x y.word) words h)
    (rest_by x production (rest_of words k) (nat_eq (rest_of words k) 0) (number (rest_of words k)))

-- ---- fields

pub fields_row : IsRow n.FIELD_ATTR_STAR n.FIELD_ATTR p.FIELD_ATTR_STAR_MORE p.FIELD_ATTR_STAR_END
unfolding ilasm rule_by
fields_row = record { more_head = refl; more_body = refl; end_head = refl; end_body = refl }

fields_words : EachStands n.FIELD_ATTR (map (λ y. word_item n.FIELD_ATTR y.word) field_words)
unfolding ilasm rule_by picked picked_by
fields_words = ((refl, (refl, tt)), ((refl, (refl, tt)), ((refl, (refl, tt)), ((refl, (refl, tt)), ((refl, (refl, tt)), ((refl, (refl, tt)), ((refl, (refl, tt)), ((refl, (refl, tt)), ((refl, (refl, tt)), ((refl, (refl, tt)), ((refl, (refl, tt)), ((refl, (refl, tt)), ((refl, (refl, tt)), tt)))))))))))))

fields_number : (k : ℕ) → Stands n.FIELD_ATTR (item p.FIELD_ATTR_FLAGS (branch p.FLAGS (flags_below k) none))
unfolding ilasm rule_by
fields_number k = (refl, (refl, (refl, (refl, (refl, (refl, tt)))), tt))

pub fields_items : (k : ℕ) → EachStands n.FIELD_ATTR (flag_items n.FIELD_ATTR p.FIELD_ATTR_FLAGS field_words k)
fields_items k = row_stands n.FIELD_ATTR p.FIELD_ATTR_FLAGS field_words fields_words fields_number k

fields_grow : (k : ℕ) → Grows (Nonterminal n.FIELD_ATTR_STAR ∷ []) (star p.FIELD_ATTR_STAR_MORE p.FIELD_ATTR_STAR_END (flag_items n.FIELD_ATTR p.FIELD_ATTR_FLAGS field_words k) none)
fields_grow k = star_grows fields_row (flag_items n.FIELD_ATTR p.FIELD_ATTR_FLAGS field_words k) (row_stands n.FIELD_ATTR p.FIELD_ATTR_FLAGS field_words fields_words fields_number k) [] none tt

-- ---- methods

methods_row : IsRow n.METHOD_ATTR_STAR n.METHOD_ATTR p.METHOD_ATTR_STAR_MORE p.METHOD_ATTR_STAR_END
unfolding ilasm rule_by
methods_row = record { more_head = refl; more_body = refl; end_head = refl; end_body = refl }

methods_words : EachStands n.METHOD_ATTR (map (λ y. word_item n.METHOD_ATTR y.word) method_words)
unfolding ilasm rule_by picked picked_by
methods_words = ((refl, (refl, tt)), ((refl, (refl, tt)), ((refl, (refl, tt)), ((refl, (refl, tt)), ((refl, (refl, tt)), ((refl, (refl, tt)), ((refl, (refl, tt)), ((refl, (refl, tt)), ((refl, (refl, tt)), ((refl, (refl, tt)), ((refl, (refl, tt)), ((refl, (refl, tt)), ((refl, (refl, tt)), ((refl, (refl, tt)), ((refl, (refl, tt)), ((refl, (refl, tt)), ((refl, (refl, tt)), tt)))))))))))))))))

methods_number : (k : ℕ) → Stands n.METHOD_ATTR (item p.METHOD_ATTR_FLAGS (branch p.FLAGS (flags_below k) none))
unfolding ilasm rule_by
methods_number k = (refl, (refl, (refl, (refl, (refl, (refl, tt)))), tt))

pub methods_grow : (k : ℕ) → Grows (Nonterminal n.METHOD_ATTR_STAR ∷ []) (star p.METHOD_ATTR_STAR_MORE p.METHOD_ATTR_STAR_END (flag_items n.METHOD_ATTR p.METHOD_ATTR_FLAGS method_words k) none)
methods_grow k = star_grows methods_row (flag_items n.METHOD_ATTR p.METHOD_ATTR_FLAGS method_words k) (row_stands n.METHOD_ATTR p.METHOD_ATTR_FLAGS method_words methods_words methods_number k) [] none tt

-- ---- implementations

implementations_row : IsRow n.IMPL_ATTR_STAR n.IMPL_ATTR p.IMPL_ATTR_STAR_MORE p.IMPL_ATTR_STAR_END
unfolding ilasm rule_by
implementations_row = record { more_head = refl; more_body = refl; end_head = refl; end_body = refl }

implementations_words : EachStands n.IMPL_ATTR (map (λ y. word_item n.IMPL_ATTR y.word) implementation_words)
unfolding ilasm rule_by picked picked_by
implementations_words = ((refl, (refl, tt)), ((refl, (refl, tt)), ((refl, (refl, tt)), ((refl, (refl, tt)), ((refl, (refl, tt)), ((refl, (refl, tt)), ((refl, (refl, tt)), ((refl, (refl, tt)), ((refl, (refl, tt)), ((refl, (refl, tt)), tt))))))))))

implementations_number : (k : ℕ) → Stands n.IMPL_ATTR (item p.IMPL_ATTR_FLAGS (branch p.FLAGS (flags_below k) none))
unfolding ilasm rule_by
implementations_number k = (refl, (refl, (refl, (refl, (refl, (refl, tt)))), tt))

pub implementations_grow : (k : ℕ) → Grows (Nonterminal n.IMPL_ATTR_STAR ∷ []) (star p.IMPL_ATTR_STAR_MORE p.IMPL_ATTR_STAR_END (flag_items n.IMPL_ATTR p.IMPL_ATTR_FLAGS implementation_words k) none)
implementations_grow k = star_grows implementations_row (flag_items n.IMPL_ATTR p.IMPL_ATTR_FLAGS implementation_words k) (row_stands n.IMPL_ATTR p.IMPL_ATTR_FLAGS implementation_words implementations_words implementations_number k) [] none tt

-- ---- parameters

parameters_row : IsRow n.PARAM_ATTR_STAR n.PARAM_ATTR p.PARAM_ATTR_STAR_MORE p.PARAM_ATTR_STAR_END
unfolding ilasm rule_by
parameters_row = record { more_head = refl; more_body = refl; end_head = refl; end_body = refl }

parameters_words : EachStands n.PARAM_ATTR (map (λ y. word_item n.PARAM_ATTR y.word) parameter_words)
unfolding ilasm rule_by picked picked_by
parameters_words = ((refl, (refl, tt)), ((refl, (refl, tt)), ((refl, (refl, tt)), tt)))

parameters_number : (k : ℕ) → Stands n.PARAM_ATTR (item p.PARAM_ATTR_FLAGS (branch p.FLAGS (flags_below k) none))
unfolding ilasm rule_by
parameters_number k = (refl, (refl, (refl, (refl, (refl, (refl, tt)))), tt))

pub parameters_grow : (k : ℕ) → Grows (Nonterminal n.PARAM_ATTR_STAR ∷ []) (star p.PARAM_ATTR_STAR_MORE p.PARAM_ATTR_STAR_END (flag_items n.PARAM_ATTR p.PARAM_ATTR_FLAGS parameter_words k) none)
parameters_grow k = star_grows parameters_row (flag_items n.PARAM_ATTR p.PARAM_ATTR_FLAGS parameter_words k) (row_stands n.PARAM_ATTR p.PARAM_ATTR_FLAGS parameter_words parameters_words parameters_number k) [] none tt

-- ---- properties

properties_row : IsRow n.PROPERTY_ATTR_STAR n.PROPERTY_ATTR p.PROPERTY_ATTR_STAR_MORE p.PROPERTY_ATTR_STAR_END
unfolding ilasm rule_by
properties_row = record { more_head = refl; more_body = refl; end_head = refl; end_body = refl }

properties_words : EachStands n.PROPERTY_ATTR (map (λ y. word_item n.PROPERTY_ATTR y.word) property_words)
unfolding ilasm rule_by picked picked_by
properties_words = ((refl, (refl, tt)), ((refl, (refl, tt)), tt))

properties_number : (k : ℕ) → Stands n.PROPERTY_ATTR (item p.PROPERTY_ATTR_FLAGS (branch p.FLAGS (flags_below k) none))
unfolding ilasm rule_by
properties_number k = (refl, (refl, (refl, (refl, (refl, (refl, tt)))), tt))

pub properties_grow : (k : ℕ) → Grows (Nonterminal n.PROPERTY_ATTR_STAR ∷ []) (star p.PROPERTY_ATTR_STAR_MORE p.PROPERTY_ATTR_STAR_END (flag_items n.PROPERTY_ATTR p.PROPERTY_ATTR_FLAGS property_words k) none)
properties_grow k = star_grows properties_row (flag_items n.PROPERTY_ATTR p.PROPERTY_ATTR_FLAGS property_words k) (row_stands n.PROPERTY_ATTR p.PROPERTY_ATTR_FLAGS property_words properties_words properties_number k) [] none tt

-- ---- typars

pub typars_row : IsRow n.TYPAR_ATTR_STAR n.TYPAR_ATTR p.TYPAR_ATTR_STAR_MORE p.TYPAR_ATTR_STAR_END
unfolding ilasm rule_by
typars_row = record { more_head = refl; more_body = refl; end_head = refl; end_body = refl }

typars_words : EachStands n.TYPAR_ATTR (map (λ y. word_item n.TYPAR_ATTR y.word) typar_words)
unfolding ilasm rule_by picked picked_by
typars_words = ((refl, (refl, tt)), ((refl, (refl, tt)), ((refl, (refl, tt)), ((refl, (refl, tt)), ((refl, (refl, tt)), tt)))))

typars_number : (k : ℕ) → Stands n.TYPAR_ATTR (item p.TYPAR_ATTR_FLAGS (branch p.FLAGS (flags_below k) none))
unfolding ilasm rule_by
typars_number k = (refl, (refl, (refl, (refl, (refl, (refl, tt)))), tt))

pub typars_items : (k : ℕ) → EachStands n.TYPAR_ATTR (flag_items n.TYPAR_ATTR p.TYPAR_ATTR_FLAGS typar_words k)
typars_items k = row_stands n.TYPAR_ATTR p.TYPAR_ATTR_FLAGS typar_words typars_words typars_number k

pub typars_grow : (k : ℕ) → Grows (Nonterminal n.TYPAR_ATTR_STAR ∷ []) (star p.TYPAR_ATTR_STAR_MORE p.TYPAR_ATTR_STAR_END (flag_items n.TYPAR_ATTR p.TYPAR_ATTR_FLAGS typar_words k) none)
typars_grow k = star_grows typars_row (flag_items n.TYPAR_ATTR p.TYPAR_ATTR_FLAGS typar_words k) (row_stands n.TYPAR_ATTR p.TYPAR_ATTR_FLAGS typar_words typars_words typars_number k) [] none tt

-- ---- assemblies

assemblies_row : IsRow n.ASSEMBLY_ATTR_STAR n.ASSEMBLY_ATTR p.ASSEMBLY_ATTR_STAR_MORE p.ASSEMBLY_ATTR_STAR_END
unfolding ilasm rule_by
assemblies_row = record { more_head = refl; more_body = refl; end_head = refl; end_body = refl }

assemblies_words : EachStands n.ASSEMBLY_ATTR (map (λ y. word_item n.ASSEMBLY_ATTR y.word) assembly_words)
unfolding ilasm rule_by picked picked_by
assemblies_words = ((refl, (refl, tt)), tt)

assemblies_number : (k : ℕ) → Stands n.ASSEMBLY_ATTR (item p.ASSEMBLY_ATTR_FLAGS (branch p.FLAGS (flags_below k) none))
unfolding ilasm rule_by
assemblies_number k = (refl, (refl, (refl, (refl, (refl, (refl, tt)))), tt))

pub assemblies_grow : (k : ℕ) → Grows (Nonterminal n.ASSEMBLY_ATTR_STAR ∷ []) (star p.ASSEMBLY_ATTR_STAR_MORE p.ASSEMBLY_ATTR_STAR_END (flag_items n.ASSEMBLY_ATTR p.ASSEMBLY_ATTR_FLAGS assembly_words k) none)
assemblies_grow k = star_grows assemblies_row (flag_items n.ASSEMBLY_ATTR p.ASSEMBLY_ATTR_FLAGS assembly_words k) (row_stands n.ASSEMBLY_ATTR p.ASSEMBLY_ATTR_FLAGS assembly_words assemblies_words assemblies_number k) [] none tt

-- ---- types

types_row : IsRow n.CLASS_ATTR_STAR n.CLASS_ATTR p.CLASS_ATTR_STAR_MORE p.CLASS_ATTR_STAR_END
unfolding ilasm rule_by
types_row = record { more_head = refl; more_body = refl; end_head = refl; end_body = refl }

types_words : EachStands n.CLASS_ATTR (map (λ y. word_item n.CLASS_ATTR y.word) type_words)
unfolding ilasm rule_by picked picked_by
types_words = ((refl, (refl, tt)), ((refl, (refl, tt)), ((refl, (refl, tt)), ((refl, (refl, tt)), ((refl, (refl, tt)), ((refl, (refl, tt)), ((refl, (refl, tt)), ((refl, (refl, tt)), ((refl, (refl, tt)), ((refl, (refl, tt)), ((refl, (refl, tt)), ((refl, (refl, tt)), ((refl, (refl, tt)), ((refl, (refl, tt)), tt))))))))))))))

types_number : (k : ℕ) → Stands n.CLASS_ATTR (item p.CLASS_ATTR_FLAGS (branch p.FLAGS (flags_below k) none))
unfolding ilasm rule_by
types_number k = (refl, (refl, (refl, (refl, (refl, (refl, tt)))), tt))

access_words : EachStands n.CLASS_ATTR (map (λ y. word_item n.CLASS_ATTR y.word) type_access)
unfolding ilasm rule_by picked picked_by
access_words = ((refl, (refl, tt)), ((refl, (refl, tt)), tt))

nested_words : EachStands n.CLASS_ATTR (map nested_item nested_access)
unfolding ilasm rule_by picked picked_by
nested_words = ((refl, (refl, (refl, (refl, tt), tt))), ((refl, (refl, (refl, (refl, tt), tt))), ((refl, (refl, (refl, (refl, tt), tt))), ((refl, (refl, (refl, (refl, tt), tt))), ((refl, (refl, (refl, (refl, tt), tt))), ((refl, (refl, (refl, (refl, tt), tt))), tt))))))

types_stand : (k : ℕ) → EachStands n.CLASS_ATTR (type_flag_items k)
types_stand k =
    each_append n.CLASS_ATTR (map (λ y. word_item n.CLASS_ATTR y.word) (said type_access k) ++ map nested_item (said nested_access k))
    (flag_items n.CLASS_ATTR p.CLASS_ATTR_FLAGS type_words (without_bits 7 k))
    (each_append n.CLASS_ATTR (map (λ y. word_item n.CLASS_ATTR y.word) (said type_access k)) (map nested_item (said nested_access k))
    (said_stand n.CLASS_ATTR k (λ y. word_item n.CLASS_ATTR y.word) type_access access_words)
    (said_stand n.CLASS_ATTR k nested_item nested_access nested_words))
    (row_stands n.CLASS_ATTR p.CLASS_ATTR_FLAGS type_words types_words types_number (without_bits 7 k))

pub types_grow : (k : ℕ) → Grows (Nonterminal n.CLASS_ATTR_STAR ∷ []) (star p.CLASS_ATTR_STAR_MORE p.CLASS_ATTR_STAR_END (type_flag_items k) none)
types_grow k = star_grows types_row (type_flag_items k) (types_stand k) [] none tt

pub flags_stand : FlagsStand
flags_stand = record { fields = fields_grow; methods = methods_grow; implementations = implementations_grow; parameters = parameters_grow; properties = properties_grow; typars = typars_grow; assemblies = assemblies_grow; types = types_grow }
