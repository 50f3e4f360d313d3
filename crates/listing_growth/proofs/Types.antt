-- Types and owners grow.
use Rattle.std.proofs.Common.{◌≡◌, ℕ, zero, suc, ◌+◌, ℤ, nat_lt, Bool, true, false, List, [], ◌∷◌, map, drop, length, Option, None, Some, refl, sym, subst, ◌∙◌}
use Rattle.std.proofs.lemmas.Bool.{and_parts, false≢true}
use Rattle.std.specs.List.{list_all}
use Rattle.std.specs.Prelude.{option_map, ⊤}
use Rattle.ilasm_grammar.specs.Ilasm.{ilasm, rule_by}
use Rattle.ilasm_grammar.specs.declared.nonterminals.TheConstants as n
use Rattle.ilasm_grammar.specs.declared.productions.TheConstants as p
use Rattle.ilasm_grammar.specs.declared.symbol.Symbol.{Symbol}
use Rattle.ilasm_grammar.specs.declared.symbol.Symbol.TheVariants.{Terminal, Nonterminal}
use Rattle.ilasm_grammar.specs.declared.terminals.TheConstants.{WORDS}
use Rattle.il_lexer.specs.declared.word.TheConstants as word
use Rattle.type_terms.specs.declared.name.Scope as scope
use Rattle.type_terms.specs.declared.name.TypeId.{TypeId}
use Rattle.type_terms.specs.declared.name.TypeName.{TypeName}
use Rattle.type_terms.specs.declared.term.Primitive as prim
use Rattle.type_terms.specs.declared.term.Owner.{Owner, fold-Owner, fold-roll-Owner, map-Owner, roll-Owner}
use Rattle.type_terms.specs.declared.term.Owner.TheOpen as layer
use Rattle.type_terms.specs.declared.term.SigType.{SigType, fold-SigType, fold-roll-SigType, map-SigType, roll-SigType}
use Rattle.type_terms.proofs.Layers.{OwnerWith, TypeWith, owner_values, type_values, by_layers, owner_by_layers}
use Rattle.assembly_tree.specs.declared.assembly.ExternAssembly.{ExternAssembly}
use Rattle.listing_model.specs.Grown.{body_of, Grows}
use Rattle.listing_model.specs.Shown.{Shown, none, Item, item, put, w, optional, branch}
use Rattle.listing_model.specs.Types.{path_below, slash_name, int_type, primitive, variable, bound, comma_bound, more_bounds, dimensions, shape, upper, first, TypeShown, based, with_suffix, type_item, type_args, brackets, modifier, name_in, named, owner_step, type_step, shown_type, owner, type_of}
use Rattle.listing_growth.specs.Laws.{Stands, TermsStand}
use Rattle.listing_growth.specs.Standing.{has_name, owner_stands, type_stands, can_stand, owner_can_stand}
use Rattle.listing_growth.proofs.Rows.{EachStands, each_append, each_one, each_map, IsOption, OptionGrows, optional_grows, IsRow, star_grows, IsCommas, commas_grow}

-- ---- names

slash_names : IsRow n.SLASH_NAME_STAR n.SLASH_NAME p.SLASH_NAME_STAR_MORE p.SLASH_NAME_STAR_END
unfolding ilasm rule_by
slash_names = record { more_head = refl; more_body = refl; end_head = refl; end_body = refl }

slash_stands : (id : TypeId) → Stands n.SLASH_NAME (slash_name id)
unfolding ilasm rule_by
slash_stands id = (refl, (refl, (refl, tt)))

no_length : nat_lt 0 0 ≡ true → ⊥
no_length h = false≢true h

pub path_grows : (ids : List TypeId) → nat_lt 0 (length ids) ≡ true → Grows (body_of p.PATH) (path_below ids)
unfolding ilasm rule_by
path_grows [] h = absurd (no_length h)
path_grows (id ∷ ids) h = (refl, star_grows slash_names (map slash_name ids) (each_map n.SLASH_NAME slash_name slash_stands ids) [] none tt)

name_stands : (externs : List ExternAssembly) (s : scope.Scope) (ids : List TypeId) → nat_lt 0 (length ids) ≡ true → Stands n.TYPE_NAME (name_in externs s ids)
unfolding ilasm rule_by
name_stands externs scope.TheVariants.Here ids h = (refl, (refl, path_grows ids h, tt))
name_stands externs (scope.TheVariants.Extern k) ids h = (refl, (refl, (refl, path_grows ids h, tt)))

-- ---- bases

pub int_stands : (x : prim.Primitive) → Stands n.INT_TYPE (int_type x)
unfolding ilasm rule_by
int_stands prim.TheVariants.I1 = (refl, (refl, tt))
int_stands prim.TheVariants.I2 = (refl, (refl, tt))
int_stands prim.TheVariants.I4 = (refl, (refl, tt))
int_stands prim.TheVariants.I8 = (refl, (refl, tt))
int_stands prim.TheVariants.U1 = (refl, (refl, tt))
int_stands prim.TheVariants.U2 = (refl, (refl, tt))
int_stands prim.TheVariants.U4 = (refl, (refl, tt))
int_stands _ = (refl, (refl, tt))

base_stands : (x : prim.Primitive) → Stands n.TYPE_BASE (primitive x)
unfolding ilasm rule_by
base_stands prim.TheVariants.Void = (refl, (refl, tt))
base_stands prim.TheVariants.Bool = (refl, (refl, tt))
base_stands prim.TheVariants.Char = (refl, (refl, tt))
base_stands prim.TheVariants.Str = (refl, (refl, tt))
base_stands prim.TheVariants.Object = (refl, (refl, tt))
base_stands prim.TheVariants.TypedRef = (refl, (refl, tt))
base_stands prim.TheVariants.R4 = (refl, (refl, tt))
base_stands prim.TheVariants.R8 = (refl, (refl, tt))
base_stands prim.TheVariants.NInt = (refl, (refl, (refl, (refl, tt), tt)))
base_stands prim.TheVariants.NUint = (refl, (refl, (refl, (refl, tt), tt)))
base_stands _ = (refl, (refl, (refl, tt), tt))

var_stands : (k : ℕ) → Stands n.TYPE_BASE (variable p.TYPE_BASE_BANG word.BANG k)
unfolding ilasm rule_by
var_stands k = (refl, (refl, (refl, (refl, tt), tt)))

mvar_stands : (k : ℕ) → Stands n.TYPE_BASE (variable p.TYPE_BASE_DOUBLE_BANG word.DOUBLE_BANG k)
unfolding ilasm rule_by
mvar_stands k = (refl, (refl, (refl, (refl, tt), tt)))

args_option : IsOption n.TYPE_ARGS_OPT p.TYPE_ARGS_OPT_SOME p.TYPE_ARGS_OPT_NONE (Nonterminal n.TYPE_ARGS ∷ [])
unfolding ilasm rule_by
args_option = record { some_head = refl; some_body = refl; none_head = refl; none_body = refl }

named_stands : (externs : List ExternAssembly) (value : Bool) (t : TypeName) (args : Option Shown) → has_name t ≡ true →
    OptionGrows (Nonterminal n.TYPE_ARGS ∷ []) args → Stands n.TYPE_BASE (named externs value t args)
unfolding ilasm rule_by
named_stands externs true t args h k =
    let name = name_stands externs t.scope t.path h in
    (refl, (refl, (name.0, name.1, optional_grows args_option args k [] none tt)))
named_stands externs false t args h k =
    let name = name_stands externs t.scope t.path h in
    (refl, (refl, (name.0, name.1, optional_grows args_option args k [] none tt)))

-- ---- shapes

end_option : IsOption n.BOUND_END_OPT p.BOUND_END_OPT_SOME p.BOUND_END_OPT_NONE (Nonterminal n.BOUND_END ∷ [])
unfolding ilasm rule_by
end_option = record { some_head = refl; some_body = refl; none_head = refl; none_body = refl }

int_option : IsOption n.INT_OPT p.INT_OPT_SOME p.INT_OPT_NONE (body_of p.INT_OPT_SOME)
unfolding ilasm rule_by
int_option = record { some_head = refl; some_body = refl; none_head = refl; none_body = refl }

bound_option : IsOption n.BOUND_OPT p.BOUND_OPT_SOME p.BOUND_OPT_NONE (Nonterminal n.BOUND ∷ [])
unfolding ilasm rule_by
bound_option = record { some_head = refl; some_body = refl; none_head = refl; none_body = refl }

bound_row : IsRow n.COMMA_BOUND_STAR n.COMMA_BOUND p.COMMA_BOUND_STAR_MORE p.COMMA_BOUND_STAR_END
unfolding ilasm rule_by
bound_row = record { more_head = refl; more_body = refl; end_head = refl; end_body = refl }

-- a dimension that has a bound stands for one
abbrev pub BoundStands : Option Item → Type 0
BoundStands None = ⊤
BoundStands (Some i) = Stands n.BOUND i

abbrev end_of : ℤ → Option ℕ → Option Shown
end_of l size = Some (branch p.BOUND_END (w word.ELLIPSIS (optional p.INT_OPT_SOME p.INT_OPT_NONE (option_map (upper l) size) none)) none)

abbrev closing : List Symbol
closing = Terminal (WORDS + word.CLOSE_BRACKET) ∷ []

lower_stands : (l : ℤ) (size : Option ℕ) → BoundStands (bound size (Some l))
unfolding ilasm rule_by
lower_stands l None = (refl, (refl, optional_grows end_option (end_of l None) (refl, (refl, optional_grows int_option None tt [] none tt), tt) [] none tt))
lower_stands l (Some k) = (refl, (refl, optional_grows end_option (end_of l (Some k)) (refl, (refl, optional_grows int_option (Some (upper l k)) (refl, tt) [] none tt), tt) [] none tt))

bound_stands : (size : Option ℕ) (lower : Option ℤ) → BoundStands (bound size lower)
unfolding ilasm rule_by
bound_stands None None = tt
bound_stands (Some k) None = (refl, (refl, optional_grows end_option None tt [] none tt))
bound_stands None (Some l) = lower_stands l None
bound_stands (Some k) (Some l) = lower_stands l (Some k)

abbrev AllBounds : List (Option Item) → Type 0
AllBounds [] = ⊤
AllBounds (b ∷ bs) = BoundStands b × AllBounds bs

all_bounds : (rank : ℕ) (sizes : List ℕ) (lower : List ℤ) → AllBounds (dimensions rank sizes lower)
all_bounds zero sizes lower = tt
all_bounds (suc rank) sizes lower = (bound_stands (first sizes) (first lower), all_bounds rank (drop 1 sizes) (drop 1 lower))

opt_bound : (b : Option Item) → BoundStands b → OptionGrows (Nonterminal n.BOUND ∷ []) (option_map (λ i. put i none) b)
opt_bound None h = tt
opt_bound (Some i) h = (h.0, h.1, tt)

commas_stand : (bs : List (Option Item)) → AllBounds bs → EachStands n.COMMA_BOUND (map comma_bound bs)
unfolding ilasm rule_by
commas_stand [] h = tt
commas_stand (b ∷ bs) h = ((refl, (refl, optional_grows bound_option (option_map (λ i. put i none) b) (opt_bound b h.0) [] none tt)), commas_stand bs h.1)

shape_stands : (ds : List (Option Item)) → AllBounds ds → Stands n.SHAPE (shape ds)
unfolding ilasm rule_by
shape_stands [] h = (refl, (refl, tt))
shape_stands (None ∷ []) h = (refl, (refl, (refl, tt), star_grows bound_row [] tt closing (w word.CLOSE_BRACKET none) (refl, tt)))
shape_stands (None ∷ d ∷ ds) h =
    (refl, (refl, optional_grows bound_option (option_map (λ i. put i none) d) (opt_bound d h.1.0) (Nonterminal n.COMMA_BOUND_STAR ∷ closing) (more_bounds ds) (star_grows bound_row (map comma_bound ds) (commas_stand ds h.1.1) closing (w word.CLOSE_BRACKET none) (refl, tt))))
shape_stands (Some b ∷ ds) h = (refl, (h.0.0, h.0.1, star_grows bound_row (map comma_bound ds) (commas_stand ds h.1) closing (w word.CLOSE_BRACKET none) (refl, tt)))

-- ---- types

pub record TypeStands (t : TypeShown) : Type 0 where
  pub base : Stands n.TYPE_BASE t.base
  pub suffixes : EachStands n.TYPE_SUFFIX t.suffixes

based_stands : (i : Item) → Stands n.TYPE_BASE i → TypeStands (based i)
based_stands i h = record { base = h; suffixes = tt }

suffix_stands : (t : TypeShown) (i : Item) → TypeStands t → Stands n.TYPE_SUFFIX i → TypeStands (with_suffix t i)
suffix_stands t i h k = record { base = h.base; suffixes = each_append n.TYPE_SUFFIX t.suffixes (i ∷ []) h.suffixes (each_one n.TYPE_SUFFIX i k) }

suffix_row : IsRow n.TYPE_SUFFIX_STAR n.TYPE_SUFFIX p.TYPE_SUFFIX_STAR_MORE p.TYPE_SUFFIX_STAR_END
unfolding ilasm rule_by
suffix_row = record { more_head = refl; more_body = refl; end_head = refl; end_body = refl }

of_stands : (t : TypeShown) → TypeStands t → Stands n.TYPE (type_item t)
unfolding ilasm rule_by
of_stands t h = (refl, (h.base.0, h.base.1, star_grows suffix_row t.suffixes h.suffixes [] none tt))

pub type_commas : IsCommas n.TYPE n.COMMA_TYPE_STAR p.COMMA_TYPE p.COMMA_TYPE_STAR_MORE p.COMMA_TYPE_STAR_END n.COMMA_TYPE
unfolding ilasm rule_by
type_commas = record { row = record { more_head = refl; more_body = refl; end_head = refl; end_body = refl }; head = refl; body = refl }

bracket_stands : (s : Item) → Stands n.SHAPE s → Stands n.TYPE_SUFFIX (brackets s)
unfolding ilasm rule_by
bracket_stands s h = (refl, (refl, (h.0, h.1, tt)))

required_stands : (by : Item) → Stands n.SPEC by → Stands n.TYPE_SUFFIX (modifier p.TYPE_SUFFIX_MODREQ word.MODREQ by)
unfolding ilasm rule_by
required_stands by h = (refl, (refl, (refl, (h.0, h.1, (refl, tt)))))

optional_stands : (by : Item) → Stands n.SPEC by → Stands n.TYPE_SUFFIX (modifier p.TYPE_SUFFIX_MODOPT word.MODOPT by)
unfolding ilasm rule_by
optional_stands by h = (refl, (refl, (refl, (h.0, h.1, (refl, tt)))))

vector_stands : Stands n.TYPE_SUFFIX (brackets (item p.SHAPE_CLOSE (w word.CLOSE_BRACKET none)))
unfolding ilasm rule_by
vector_stands = (refl, (refl, (refl, (refl, tt), tt)))

by_ref_stands : Stands n.TYPE_SUFFIX (item p.TYPE_SUFFIX_AMPERSAND (w word.AMPERSAND none))
unfolding ilasm rule_by
by_ref_stands = (refl, (refl, tt))

pointer_stands : Stands n.TYPE_SUFFIX (item p.TYPE_SUFFIX_STAR (w word.STAR none))
unfolding ilasm rule_by
pointer_stands = (refl, (refl, tt))

pinned_stands : Stands n.TYPE_SUFFIX (item p.TYPE_SUFFIX_PINNED (w word.PINNED none))
unfolding ilasm rule_by
pinned_stands = (refl, (refl, tt))

name_owner : (externs : List ExternAssembly) (t : TypeName) → has_name t ≡ true → Stands n.SPEC (owner_step externs (layer.Name t))
unfolding ilasm rule_by
name_owner externs t h = let name = name_stands externs t.scope t.path h in (refl, (name.0, name.1, tt))

type_owner : (externs : List ExternAssembly) (t : TypeShown) → TypeStands t → Stands n.SPEC (owner_step externs (layer.Spec t))
unfolding ilasm rule_by
type_owner externs t h = let of = of_stands t h in (refl, (of.0, of.1, tt))

module _ (externs : List ExternAssembly) where
  abbrev types : SigType → TypeShown
  types = fold-SigType Item TypeShown (owner_step externs) (type_step externs)

  abbrev owners : Owner → Item
  owners = fold-Owner Item TypeShown (owner_step externs) (type_step externs)

  abbrev may : SigType → Bool
  may = fold-SigType Bool Bool owner_stands type_stands

  abbrev owner_may : Owner → Bool
  owner_may = fold-Owner Bool Bool owner_stands type_stands

  abbrev Q : SigType → Type 0
  Q t = may t ≡ true → TypeStands (types t)

  abbrev P : Owner → Type 0
  P o = owner_may o ≡ true → Stands n.SPEC (owners o)

  args_stand : (args : List (TypeWith P Q)) → list_all (λ ok. ok) (map may (map (λ (x : TypeWith P Q). x.0) args)) ≡ true →
      EachStands n.TYPE (map type_item (map types (map (λ (x : TypeWith P Q). x.0) args)))
  args_stand [] h = tt
  args_stand (x ∷ xs) h = let hs = and_parts _ _ h in (of_stands (types x.0) (x.1 hs.0), args_stand xs hs.1)

  args_grow : (args : List (TypeWith P Q)) → nat_lt 0 (length (map may (map (λ (x : TypeWith P Q). x.0) args))) ≡ true →
      list_all (λ ok. ok) (map may (map (λ (x : TypeWith P Q). x.0) args)) ≡ true →
      OptionGrows (Nonterminal n.TYPE_ARGS ∷ []) (Some (type_args (map types (map (λ (x : TypeWith P Q). x.0) args))))
  unfolding ilasm rule_by
  args_grow [] l h = absurd (no_length l)
  args_grow (x ∷ xs) l h = (
    refl,
    (
      refl,
      commas_grow type_commas (type_item (types x.0)) (map type_item (map types (map (λ (x : TypeWith P Q). x.0) xs))) (args_stand (x ∷ xs) h)
          (Terminal (WORDS + word.GREATER) ∷ []) (w word.GREATER none) (refl, tt),
    ),
    tt,
  )

  type_layer : (l : layer.SigType-F (OwnerWith P Q) (TypeWith P Q)) →
      type_stands (map-SigType Owner SigType Bool Bool owner_may may (type_values P Q l)) ≡ true →
      TypeStands (type_step externs (map-SigType Owner SigType Item TypeShown owners types (type_values P Q l)))
  type_layer (layer.Prim x) h = based_stands (primitive x) (base_stands x)
  type_layer (layer.Class t) h = based_stands (named externs false t None) (named_stands externs false t None h tt)
  type_layer (layer.Value t) h = based_stands (named externs true t None) (named_stands externs true t None h tt)
  type_layer (layer.Inst v t args) h =
      let hs = and_parts _ _ h in
      let ks = and_parts _ _ hs.1 in
      based_stands (named externs v t (Some (type_args (map types (map (λ (x : TypeWith P Q). x.0) args)))))
      (named_stands externs v t (Some (type_args (map types (map (λ (x : TypeWith P Q). x.0) args)))) hs.0 (args_grow args ks.0 ks.1))
  type_layer (layer.Var k) h = based_stands _ (var_stands k)
  type_layer (layer.MVar k) h = based_stands _ (mvar_stands k)
  type_layer (layer.SzArray t) h = suffix_stands (types t.0) _ (t.1 h) vector_stands
  type_layer (layer.Array t rank sizes lower) h =
      suffix_stands (types t.0) _ (t.1 h) (bracket_stands _ (shape_stands (dimensions rank sizes lower) (all_bounds rank sizes lower)))
  type_layer (layer.ByRef t) h = suffix_stands (types t.0) _ (t.1 h) by_ref_stands
  type_layer (layer.Pointer t) h = suffix_stands (types t.0) _ (t.1 h) pointer_stands
  type_layer (layer.Mod true o t) h =
      let hs = and_parts _ _ h in suffix_stands (types t.0) _ (t.1 hs.1) (required_stands (owners o.0) (o.1 hs.0))
  type_layer (layer.Mod false o t) h =
      let hs = and_parts _ _ h in suffix_stands (types t.0) _ (t.1 hs.1) (optional_stands (owners o.0) (o.1 hs.0))
  type_layer (layer.Pinned t) h = suffix_stands (types t.0) _ (t.1 h) pinned_stands

  owner_layer : (l : layer.Owner-F (OwnerWith P Q) (TypeWith P Q)) →
      owner_stands (map-Owner Owner SigType Bool Bool owner_may may (owner_values P Q l)) ≡ true →
      Stands n.SPEC (owner_step externs (map-Owner Owner SigType Item TypeShown owners types (owner_values P Q l)))
  owner_layer (layer.Name t) h = name_owner externs t h
  owner_layer (layer.Spec t) h = type_owner externs (types t.0) (t.1 h)

  type_made : (l : layer.SigType-F (OwnerWith P Q) (TypeWith P Q)) → Q (roll-SigType (type_values P Q l))
  type_made l h =
      subst TypeStands (sym (fold-roll-SigType Item TypeShown (owner_step externs) (type_step externs) (type_values P Q l)))
      (type_layer l (sym (fold-roll-SigType Bool Bool owner_stands type_stands (type_values P Q l)) ∙ h))

  owner_made : (l : layer.Owner-F (OwnerWith P Q) (TypeWith P Q)) → P (roll-Owner (owner_values P Q l))
  owner_made l h =
      subst (Stands n.SPEC) (sym (fold-roll-Owner Item TypeShown (owner_step externs) (type_step externs) (owner_values P Q l)))
      (owner_layer l (sym (fold-roll-Owner Bool Bool owner_stands type_stands (owner_values P Q l)) ∙ h))

  type_all : (t : SigType) → Q t
  type_all = by_layers P Q owner_made type_made

  owner_all : (o : Owner) → P o
  owner_all = owner_by_layers P Q owner_made type_made

pub types_stand : (externs : List ExternAssembly) (t : SigType) → can_stand t ≡ true → Stands n.TYPE (type_of externs t)
unfolding can_stand shown_type
types_stand externs t h = of_stands (shown_type externs t) (type_all externs t h)

pub owners_stand : (externs : List ExternAssembly) (o : Owner) → owner_can_stand o ≡ true → Stands n.SPEC (owner externs o)
unfolding owner_can_stand owner
owners_stand externs o h = owner_all externs o h

pub terms_stand : TermsStand
terms_stand = record { types = types_stand; owners = owners_stand }
