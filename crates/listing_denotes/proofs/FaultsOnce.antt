-- A listing declares once what may be declared once.
use Rattle.std.proofs.Common.{◌≡◌, ℕ, suc, ◌+◌, ◌<◌, ◌^◌, ◌&&◌, ◌||◌, not, true, false, List, [], ◌∷◌, ◌++◌, map, drop, length, refl, ap, sym, ◌∙◌, inl, inr, arith}
use Rattle.std.proofs.lemmas.Bool.{cases_Bool}
use Rattle.std.proofs.lemmas.Slice.Eq.{bytes_eq-Decides}
use Rattle.std.specs.List.{list_any}
use Rattle.std.specs.Str.{bytes_eq}
use Rattle.assembly_tree.specs.WellFormedNames.{all_differ}
use Rattle.assembly_tree.specs.declared.assembly.Assembly.{Assembly}
use Rattle.assembly_tree.proofs.FormedFacts.{assemblies_named}
use Rattle.source_model.specs.Data.{labelled, label_token}
use Rattle.source_model.specs.DeclaredTwice.{repeats, is_same_class, types_twice, externs_twice, manifests_twice, data_twice}
use Rattle.source_model.specs.Forest as f
use Rattle.source_model.specs.Names.{assembly_token, classes, externs, extern_key, key_token}
use Rattle.source_model.specs.Nodes.{class_token}
use Rattle.source_model.specs.Source.{Source}
use Rattle.source_model.specs.Undeclared.{assembly_undeclared, end_unless_some}
use Rattle.source_model.specs.Values.{name_text}
use Rattle.listing_keys.specs.Laws.{KeysDiffer, KeysAreKnown}
use Rattle.listing_leaves.specs.Numbers.{data_label}
use Rattle.listing_model.specs.Canon.{contents}
use Rattle.listing_values.specs.Laws.{LabelsDiffer}
use Rattle.listing_declarations.specs.Laws.{IsListingOf, ManifestsAreRead}
use Rattle.listing_data.specs.Laws.{labels, ContentsAreHeld, DataAreThere}
use Rattle.listing_places.specs.Laws.{place_of, PlacesAreRead}
use Rattle.type_places.specs.Laws.{is_same_place, module_path, PlacesDiffer}
use Rattle.type_places.specs.Places.{has_path}
use Rattle.listing_growth.specs.Laws.{CanonStands}
use Rattle.listing_reading.specs.Laws.{SearchesPass}
use Rattle.faultless_nodes.specs.Laws.{WholeBreaksNothing, NodesSuffice}
use Rattle.listing_denotes.specs.Entries.{ListingsEnterOnce}
use Rattle.listing_denotes.specs.Whole.{ListingsAreRead, FaultlessListingsDenote}
use Rattle.members_once.specs.Laws.{MembersAreOnce}
use Rattle.listing_denotes.specs.Faults.{ListingsDeclareOnce, QuietListingsDenote}
use Rattle.listing_denotes.proofs.FaultsMembers.{members_are}
use Rattle.members_once.proofs.Repeats.{no_repeats, differ_mapped, none_pass, differ_turned}

-- ---- labels of data

module _ (differ : LabelsDiffer) where
  other_label : (j k : ℕ) → j < k → k < 2 ^ 128 → bytes_eq (data_label j) (data_label k) ≡ false
  other_label j k less small = elim (cases_Bool (bytes_eq (data_label j) (data_label k))) [
    | inl is ↦
        let low : j < 2 ^ 128 = omega arith in
        let same = differ.contents j k low small ((bytes_eq-Decides (data_label j) (data_label k)).0 is) in
        absurd (omega arith)
    | inr other ↦ other
  ]

  none_later : (j k : ℕ) (xs : List (List ℕ)) → j < k → k + length xs < 2 ^ 128 → list_any (bytes_eq (data_label j)) (labels k xs) ≡ false
  none_later j k [] less small = refl
  none_later j k (x ∷ xs) less small =
      let here : k < 2 ^ 128 = omega arith in
      let next : j < suc k = omega arith in
      let small_next : suc k + length xs < 2 ^ 128 = omega arith in
      ap (λ c. c || list_any (bytes_eq (data_label j)) (labels (suc k) xs)) (other_label j k less here) ∙ none_later j (suc k) xs next small_next

  labels_differ : (k : ℕ) (xs : List (List ℕ)) → k + length xs < 2 ^ 128 → all_differ bytes_eq (labels k xs) ≡ true
  labels_differ k [] small = refl
  labels_differ k (x ∷ xs) small =
      let less : k < suc k = omega arith in
      let small_next : suc k + length xs < 2 ^ 128 = omega arith in
      ap (λ c. not c && all_differ bytes_eq (labels (suc k) xs)) (none_later k (suc k) xs less small_next) ∙ labels_differ (suc k) xs small_next

-- ---- all of these

pub record OnceLaws : Type 0 where
  pub apart : LabelsDiffer
  pub held : ContentsAreHeld
  pub there : DataAreThere
  pub manifests : ManifestsAreRead
  pub known : KeysAreKnown
  pub keys : KeysDiffer
  pub placed : PlacesAreRead
  pub places : PlacesDiffer
  pub stands : CanonStands
  pub searches : SearchesPass
  pub members : MembersAreOnce
  pub read : ListingsAreRead
  pub entries : ListingsEnterOnce

module _ (laws : OnceLaws) (s : Source) (a : Assembly) (listed : IsListingOf s a) where
  texts_once : {X : Type 0} (text : X → List ℕ) (xs : List X) → all_differ bytes_eq (map text xs) ≡ true → repeats (λ x y. bytes_eq (text x) (text y)) xs ≡ []
  texts_once text xs h =
      no_repeats (λ x y. bytes_eq (text x) (text y)) xs (differ_mapped (λ x y. bytes_eq y x) text xs ∙ (sym (differ_turned (map text xs)) ∙ h))

  externs_once : externs_twice s ≡ []
  externs_once =
      let few = (laws.known.knows s a listed).names.few in
      ap (map key_token) (texts_once (extern_key s) (externs s) (ap (all_differ bytes_eq) (laws.known.said s a listed) ∙ laws.keys a.externs few))

  contents_once : data_twice s ≡ []
  contents_once =
      let few = laws.held.few s a listed in
      let small : 0 + length (contents a) < 2 ^ 128 = omega arith in
      ap (map label_token)
      (texts_once (λ g. name_text s (label_token g)) (labelled s) (ap (all_differ bytes_eq) (laws.there.said s a listed) ∙ labels_differ laws.apart 0 (contents a) small))

  types_once : types_twice s ≡ []
  types_once =
      let formed = ((assemblies_named a).0 listed.formed).classes in
      let placed = laws.placed s a listed in
      let none_module = none_pass (has_path module_path) (place_of s) (classes s) (ap (list_any (has_path module_path)) placed ∙ laws.places.no_module a 100 a.types formed) in
      let none_twice = no_repeats is_same_class (classes s) (differ_mapped is_same_place (place_of s) (classes s) ∙ (ap (all_differ is_same_place) placed ∙ laws.places.differ a true 100 a.types formed)) in
      (λ i. map (λ n. class_token n.below) (none_module i) ++ map (λ n. class_token n.below) (none_twice i))

  manifests_once : manifests_twice s ≡ []
  manifests_once =
      let one = laws.manifests.one s a listed in
      let alone = laws.manifests.modules s a listed in
      λ i. map assembly_token (drop 1 (one i)) ++ map (f.leaf_at 1) (alone i)

  some_assembly : assembly_undeclared s ≡ []
  some_assembly = ap (λ gs. end_unless_some gs (length s.tokens)) (laws.manifests.one s a listed)

  once : WholeBreaksNothing s
  once = record { types = types_once; members = members_are laws.searches laws.members laws.stands s a listed (laws.read.says s a listed); externs = externs_once; entries = laws.entries.once s a listed; manifests = manifests_once; contents = contents_once; assembly = some_assembly }

pub listings_declare_once : CanonStands → SearchesPass → LabelsDiffer → ContentsAreHeld → DataAreThere → ManifestsAreRead → KeysAreKnown → KeysDiffer → PlacesAreRead → PlacesDiffer → MembersAreOnce → ListingsAreRead → ListingsEnterOnce → ListingsDeclareOnce
listings_declare_once stands searches apart held there manifests known keys_apart placed differ members read entries s a listed =
    let laws : OnceLaws = record {
      apart = apart;
      held = held;
      there = there;
      manifests = manifests;
      known = known;
      keys = keys_apart;
      placed = placed;
      places = differ;
      stands = stands;
      searches = searches;
      members = members;
      read = read;
      entries = entries;
    } in
    once laws s a listed

pub quiet_listings_denote : NodesSuffice → ListingsDeclareOnce → FaultlessListingsDenote → QuietListingsDenote
quiet_listings_denote suffice once denote a listed utf8 quiet = denote a listed utf8 (λ s read lists. suffice s (quiet s lists) (once s a lists))
