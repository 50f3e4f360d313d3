-- What a listing says is the assembly.
use Rattle.std.proofs.Common.{◌≡◌, ◌+◌, ◌≤◌, ◌^◌, [], ◌∷◌, ◌++◌, length, subst, refl, ◌∙◌, arith, true, ap, slice_get}
use Rattle.std.specs.Prelude.{sum_by}
use Rattle.ilasm_grammar.specs.Ilasm.{ilasm, rule_by}
use Rattle.ilasm_grammar.specs.declared.nonterminals.TheConstants as n
use Rattle.ilasm_grammar.specs.declared.productions.TheConstants as p
use Rattle.ilasm_grammar.specs.declared.symbol.Symbol.TheVariants.{Nonterminal}
use Rattle.assembly_tree.specs.Weight.{method_weight, weight_of}
use Rattle.assembly_tree.specs.declared.assembly.Assembly.{Assembly}
use Rattle.assembly_tree.proofs.FormedFacts.{assemblies_named}
use Rattle.source_model.specs.Classes.{classes_in, assembly}
use Rattle.source_model.specs.Nodes.{nothing_around}
use Rattle.source_model.specs.Source.{Source}
use Rattle.listing_formed.specs.Laws.{Knows}
use Rattle.listing_groups.specs.Laws.{HaveContents}
use Rattle.listing_model.specs.Canon.{classes, contents}
use Rattle.listing_model.specs.Classes.{all_contents}
use Rattle.listing_model.specs.Grown.{body_of}
use Rattle.listing_model.specs.Members.{field_contents}
use Rattle.listing_nesting.specs.Laws.{HasData, StandAt, NestedAreRead}
use Rattle.listing_nesting.proofs.Data.{stand_front, stand_behind, contents_there}
use Rattle.listing_nesting.proofs.Formed.{methods_short}
use Rattle.listing_declarations.specs.Laws.{IsListingOf, types_place, DeclarationsAreRead, ExternsAreNamed, GlobalsAreRead, ManifestsAreRead}
use Rattle.listing_data.specs.Laws.{TypesStand, ContentsAreHeld, DataAreThere}
use Rattle.listing_keys.specs.Laws.{KeysAreKnown}
use Rattle.listing_places.specs.Laws.{SizesAreKnown}
use Rattle.listing_denotes.specs.Whole.{ListingsAreRead}

decl_class : body_of p.DECL_CLASS ≡ Nonterminal n.CLASS ∷ []
unfolding ilasm rule_by
decl_class = refl

pub record WholeLaws : Type 0 where
  pub held : ContentsAreHeld
  pub there : DataAreThere
  pub stand : TypesStand
  pub declared : DeclarationsAreRead
  pub externs : ExternsAreNamed
  pub globals : GlobalsAreRead
  pub manifests : ManifestsAreRead
  pub keys : KeysAreKnown
  pub nested : NestedAreRead
  pub sizes : SizesAreKnown

module _ (laws : WholeLaws) (s : Source) (a : Assembly) (listed : IsListingOf s a) where
  knows : Knows s a
  knows = laws.keys.knows s a listed

  has : HasData s a
  has = record { few = laws.held.few s a listed; sizes = laws.sizes.sizes s a listed; given = laws.there.given s a listed }

  all_stand : StandAt 0 (all_contents (classes a) ++ field_contents a.fields) (contents a)
  all_stand j x e = let at : 0 + j ≡ j = omega arith in ap (slice_get (contents a)) at ∙ e

  types_are : classes_in s nothing_around s.tree ≡ a.types
  types_are =
      let d = laws.declared s a listed in
      d.type_rows
      ∙ laws.nested s a knows has true 100 [] a.types (laws.stand s a listed) nothing_around refl p.DECL_CLASS n.DECL decl_class 0 (types_place a)
      (stand_front 0 (all_contents (classes a)) (field_contents a.fields) (contents a) all_stand) d.types_grown d.types

  have_contents : HaveContents s (length (all_contents (classes a))) a.fields
  have_contents =
      let from : 0 + length (all_contents (classes a)) ≡ length (all_contents (classes a)) = omega arith in
      contents_there s a has a.fields ((assemblies_named a).0 listed.formed).fields (length (all_contents (classes a)))
      (subst (λ k. StandAt k (field_contents a.fields) (contents a)) from (stand_behind 0 (all_contents (classes a)) (field_contents a.fields) (contents a) all_stand))

  methods_light : sum_by method_weight a.methods ≤ 2 ^ 26
  unfolding weight_of
  methods_light = let light = listed.light in omega arith

  says : assembly s ≡ a
  unfolding assembly
  says =
      let manifest_is = laws.manifests.read s a listed knows in
      let externs_are = laws.externs.read s a listed in
      let fields_are = laws.globals.fields s a listed knows have_contents in
      let methods_are = laws.globals.methods s a listed knows (methods_short a.methods methods_light) in
      λ i. record { manifest = manifest_is i; externs = externs_are i; fields = fields_are i; methods = methods_are i; types = types_are i }

pub listings_are_read : ContentsAreHeld → DataAreThere → TypesStand → DeclarationsAreRead → ExternsAreNamed → GlobalsAreRead → ManifestsAreRead → KeysAreKnown → NestedAreRead → SizesAreKnown → ListingsAreRead
listings_are_read held there stand declared externs globals manifests keys nested sizes =
    let laws : WholeLaws = record {
      held = held;
      there = there;
      stand = stand;
      declared = declared;
      externs = externs;
      globals = globals;
      manifests = manifests;
      keys = keys;
      nested = nested;
      sizes = sizes;
    } in
    record { knows = knows laws; has = has laws; says = says laws }
