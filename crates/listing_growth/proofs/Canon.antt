-- The canonical source of an assembly grows.
use Rattle.std.proofs.Common.{◌≡◌, ℕ, suc, true, List, [], ◌∷◌, ◌++◌, map, length, refl}
use Rattle.std.proofs.lemmas.Bool.{and_parts}
use Rattle.ilasm_grammar.specs.Ilasm.{ilasm, rule_by}
use Rattle.ilasm_grammar.specs.declared.nonterminals.TheConstants as n
use Rattle.ilasm_grammar.specs.declared.productions.TheConstants as p
use Rattle.ilasm_grammar.specs.declared.symbol.Symbol.TheVariants.{Nonterminal}
use Rattle.assembly_tree.specs.WellFormed.{is_well_formed}
use Rattle.assembly_tree.specs.WellFormedMembers.{is_method}
use Rattle.assembly_tree.specs.declared.assembly.Assembly.{Assembly}
use Rattle.assembly_tree.specs.declared.members.Method.{Method}
use Rattle.assembly_tree.proofs.FormedFacts.{assemblies_named}
use Rattle.listing_model.specs.Canon.{data_lines, classes, contents, declarations, source_of, canon}
use Rattle.listing_model.specs.Classes.{all_contents, classes_from}
use Rattle.listing_model.specs.Grown.{Grows}
use Rattle.listing_model.specs.Manifests.{extern_lines, manifest_lines}
use Rattle.listing_model.specs.Members.{fields}
use Rattle.listing_model.specs.Methods.{method}
use Rattle.listing_model.specs.Shown.{none, Item, item, put}
use Rattle.listing_growth.specs.Held.{is_method_held, is_held}
use Rattle.listing_growth.specs.Laws.{Stands, CanonStands}
use Rattle.listing_growth.proofs.Classes.{fields_stand, each_class, types_all}
use Rattle.listing_growth.proofs.Manifests.{externs_stand, manifest_stands}
use Rattle.listing_growth.proofs.Methods.{method_item_stands}
use Rattle.listing_growth.proofs.Rows.{EachStands, each_append, each_both, IsRow, star_stands}
use Rattle.listing_growth.proofs.Values.{values_stand}

decl_row : IsRow n.DECL_STAR n.DECL p.DECL_STAR_MORE p.DECL_STAR_END
unfolding ilasm rule_by
decl_row = record { more_head = refl; more_body = refl; end_head = refl; end_body = refl }

data_stand : (k : ℕ) (all : List (List ℕ)) → EachStands n.DECL (data_lines k all)
data_stand k [] = tt
data_stand k (bytes ∷ more) = (values_stand.contents k bytes, data_stand (suc k) more)

-- a row of declarations with one at its head is a source
source_grows : (d : Item) (ds : List Item) → EachStands n.DECL (d ∷ ds) → (a : Assembly) → Grows (Nonterminal n.SOURCE ∷ []) (source_of a (d ∷ ds))
unfolding ilasm rule_by
source_grows d ds h a = let row = star_stands decl_row ds h.1 in (refl, (h.0.0, h.0.1, (row.0, row.1, tt)), tt)

-- there is always one: the assembly's own declaration
some_grow : (xs : List Item) (y : Item) (zs : List Item) (a : Assembly) → EachStands n.DECL (xs ++ (y ∷ zs)) →
    Grows (Nonterminal n.SOURCE ∷ []) (source_of a (xs ++ (y ∷ zs)))
some_grow [] y zs a h = source_grows y zs h a
some_grow (x ∷ xs) y zs a h = source_grows x (xs ++ (y ∷ zs)) h a

global_method : (a : Assembly) (x : Method) → is_method a x ≡ true → is_method_held x ≡ true → Stands n.DECL (item p.DECL_METHOD (put (method a.externs x) none))
unfolding ilasm rule_by
global_method a x m h = let s = method_item_stands a.externs a x m h in (refl, (s.0, s.1, tt))

declarations_stand : (a : Assembly) → is_well_formed a ≡ true → is_held a ≡ true → EachStands n.DECL (declarations a)
unfolding ilasm rule_by is_held
declarations_stand a m h =
    let f = (assemblies_named a).0 m in
    let h4 = and_parts _ _ h in
    let h3 = and_parts _ _ h4.0 in
    let h2 = and_parts _ _ h3.0 in
    let h1 = and_parts _ _ h2.0 in
    each_append n.DECL (extern_lines a.externs 0 a.externs) _ (externs_stand a.externs 0 a.externs)
    (each_append n.DECL (manifest_lines a.externs a.manifest) _ (manifest_stands a.externs a a.manifest f.manifest h1.0)
    (each_append n.DECL (classes_from p.DECL_CLASS [] 0 (classes a)) _
    (each_class a a.externs p.DECL_CLASS refl refl [] 0 (classes a) (types_all a a.externs 100 true a.types f.classes h4.1))
    (each_append n.DECL (fields a.externs p.DECL_FIELD p.DECL_CUSTOM (length (all_contents (classes a))) a.fields) _
    (fields_stand a p.DECL_FIELD p.DECL_CUSTOM refl refl refl refl a.externs (length (all_contents (classes a))) a.fields f.fields h2.1)
    (each_append n.DECL (map (λ x. item p.DECL_METHOD (put (method a.externs x) none)) a.methods) _
    (each_both n.DECL (λ x. item p.DECL_METHOD (put (method a.externs x) none)) (is_method a) is_method_held (global_method a) a.methods f.methods h3.1)
    (data_stand 0 (contents a))))))

canon_grows : (a : Assembly) → is_well_formed a ≡ true → is_held a ≡ true → Grows (Nonterminal n.SOURCE ∷ []) (canon a)
unfolding canon manifest_lines
canon_grows a m h = some_grow (extern_lines a.externs 0 a.externs) _ _ a (declarations_stand a m h)

pub canon_stands : CanonStands
canon_stands = canon_grows
