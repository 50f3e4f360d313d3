-- The canonical source of an assembly is sound.
use Rattle.std.proofs.Common.{◌≡◌, ℕ, suc, ◌+◌, ◌^◌, ◌<◌, ◌≤◌, true, List, [], ◌∷◌, map, length, refl, arith, length-append}
use Rattle.std.proofs.lemmas.Bool.{and_parts}
use Rattle.std.proofs.lemmas.List.Sums.{sum_by-cons}
use Rattle.std.specs.List.{list_all}
use Rattle.std.specs.Prelude.{sum_by}
use Rattle.ilasm_grammar.specs.declared.productions.TheConstants as p
use Rattle.assembly_tree.specs.Weight.{method_weight, extern_weight, typedef_weight, weight_of}
use Rattle.assembly_tree.specs.declared.assembly.Assembly.{Assembly}
use Rattle.assembly_tree.specs.declared.assembly.ExternAssembly.{ExternAssembly}
use Rattle.assembly_tree.proofs.FormedFacts.{assemblies_named}
use Rattle.listing_growth.specs.Held.{are_bytes, is_held}
use Rattle.listing_model.specs.Canon.{data_lines, classes, contents, declarations, source_of, canon}
use Rattle.listing_model.specs.Classes.{all_contents, classes_from}
use Rattle.listing_model.specs.Manifests.{extern_lines, manifest_lines}
use Rattle.listing_model.specs.Members.{fields, field_contents}
use Rattle.listing_model.specs.Methods.{method}
use Rattle.listing_model.specs.Shown.{Leaf, none, Item, item, put}
use Rattle.listing_tokens.specs.Laws.{IsListed}
use Rattle.listing_tokens.proofs.Classes.{contents_light, types_sound, classes_sound, methods_sound, data_light, bytes_in}
use Rattle.listing_tokens.proofs.Manifests.{externs_sound, manifest_sound}
use Rattle.listing_tokens.proofs.Members.{fields_sound}
use Rattle.listing_tokens.proofs.Sound.{Sound, EachSound, each_wider, sounds_append, star_sound}
use Rattle.listing_tokens.proofs.Terms.{LeafLaws}
use Rattle.listing_tokens.proofs.Values.{data_sound}

externs_light : (es : List ExternAssembly) → length es ≤ sum_by extern_weight es
unfolding extern_weight
externs_light [] = omega arith
externs_light (e ∷ es) = let rest = externs_light es in let all = sum_by-cons extern_weight e es in omega arith

data_lines_sound : (laws : LeafLaws) (r k : ℕ) (all : List (List ℕ)) → k + length all < 2 ^ 128 → list_all are_bytes all ≡ true → EachSound r (data_lines k all)
data_lines_sound laws r k [] small h = tt
data_lines_sound laws r k (bytes ∷ more) small h =
    let hs = and_parts (are_bytes bytes) (list_all are_bytes more) h in
    let here : k < 2 ^ 128 = omega arith in
    let next : suc k + length more < 2 ^ 128 = omega arith in
    (data_sound laws r k here bytes hs.0, data_lines_sound laws r (suc k) more next hs.1)

-- a source by its declarations
source_sound : (a : Assembly) (r : ℕ) (ds : List Item) → EachSound r ds → (rest : List Leaf) → Sound r (source_of a ds) rest
source_sound a r [] h rest = tt
source_sound a r (d ∷ ds) h rest = ((h.0 _, (star_sound r p.DECL_STAR_MORE p.DECL_STAR_END ds h.1 _, tt)), tt)

pub canon_sound : LeafLaws → (a : Assembly) → IsListed a → Sound 300 (canon a) []
unfolding canon is_held weight_of
canon_sound laws a listed =
    let f = (assemblies_named a).0 listed.formed in
    let light = listed.light in
    let h4 = and_parts _ _ listed.held in
    let h3 = and_parts _ _ h4.0 in
    let h2 = and_parts _ _ h3.0 in
    let h1 = and_parts _ _ h2.0 in
    let many = externs_light a.externs in
    let few : length a.externs < 2 ^ 128 = omega arith in
    let types_light : sum_by typedef_weight a.types ≤ 2 ^ 26 = omega arith in
    let methods_light : sum_by method_weight a.methods ≤ 2 ^ 26 = omega arith in
    let class_data = data_light laws a f.externs few 100 true a.types f.classes in
    let field_data = contents_light a.fields in
    let joined = length-append (all_contents (classes a)) (field_contents a.fields) in
    let some_data : 0 + length (contents a) < 2 ^ 128 = omega arith in
    let class_few : 0 + length (all_contents (classes a)) < 2 ^ 128 = omega arith in
    let field_few : length (all_contents (classes a)) + length (field_contents a.fields) < 2 ^ 128 = omega arith in
    let extern_few : 0 + length a.externs < 2 ^ 128 = omega arith in
    source_sound a 300 (declarations a)
    (sounds_append 300 (extern_lines a.externs 0 a.externs) _
    (each_wider 101 300 (omega arith) _ (externs_sound laws a f.externs few 0 a.externs extern_few f.externs h1.1))
    (sounds_append 300 (manifest_lines a.externs a.manifest) _
    (each_wider 102 300 (omega arith) _ (manifest_sound laws a f.externs few a.manifest f.manifest h1.0))
    (sounds_append 300 (classes_from p.DECL_CLASS [] 0 (classes a)) _
    (classes_sound laws a f.externs few 300 p.DECL_CLASS [] refl 0 (classes a) (types_sound laws a f.externs few 100 300 (omega arith) true a.types f.classes h4.1 types_light) class_few)
    (sounds_append 300 (fields a.externs p.DECL_FIELD p.DECL_CUSTOM (length (all_contents (classes a))) a.fields) _
    (each_wider 101 300 (omega arith) _ (fields_sound laws a f.externs few p.DECL_FIELD p.DECL_CUSTOM (length (all_contents (classes a))) a.fields field_few f.fields h2.1))
    (sounds_append 300 (map (λ m. item p.DECL_METHOD (put (method a.externs m) none)) a.methods) _
    (each_wider 102 300 (omega arith) _ (methods_sound laws a f.externs few p.DECL_METHOD a.methods methods_light f.methods h3.1))
    (data_lines_sound laws 300 0 (contents a) some_data (bytes_in laws a f.externs few a.types a.fields f.classes h4.1 h2.1))))))) []
