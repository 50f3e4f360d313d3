-- What is drawn of the assembly and its module.
use Rattle.std.proofs.Common.{◌≡◌, ℕ, List, [], ◌∷◌, ◌++◌, ap, sym, ◌∙◌}
use Rattle.il_lexer.specs.declared.types.TokenKind.TheVariants as kind
use Rattle.il_lexer.specs.declared.word.TheConstants as word
use Rattle.ilasm_grammar.specs.declared.productions.TheConstants as p
use Rattle.assembly_tree.specs.declared.assembly.ExternAssembly.{ExternAssembly}
use Rattle.assembly_tree.specs.declared.assembly.Manifest.{Manifest}
use Rattle.assembly_tree.specs.declared.members.Attribute.{Attribute}
use Rattle.listing_leaves.specs.Numbers.{hexadecimal}
use Rattle.listing_model.specs.Manifests.{key, culture, version, all_below, assembly_flags, hash_algorithm, assembly_items, assembly_item, header_lines, manifest_lines}
use Rattle.listing_model.specs.Shown.{none, token, w, line}
use Rattle.listing_model.specs.Types.{name}
use Rattle.listing_model.specs.Values.{customs}
use Rattle.print_leaves.specs.Page.{Page, drawn}
use Rattle.print_terms.specs.Rows.{under, in_row}
use Rattle.print_terms.proofs.Rows.{star_row, row_append}
use Rattle.print_members.specs.Rows.{customs_drawn}
use Rattle.print_members.proofs.Rows.{customs_are}
use Rattle.print_manifests.proofs.ExternRows.{all_below_is}

-- key, culture and version
keys_are : (q : Page) (m : Manifest) →
    under (in_row (in_row q (key m.flags m.key)) (culture m.culture)) (version m.version)
    ≡ in_row q (all_below p.ASSEMBLY_ITEM_KEY (key m.flags m.key ++ (culture m.culture ++ version m.version ∷ [])))
keys_are q m =
    sym (all_below_is p.ASSEMBLY_ITEM_KEY q (key m.flags m.key ++ (culture m.culture ++ version m.version ∷ []))
    ∙ (row_append q (key m.flags m.key) (culture m.culture ++ version m.version ∷ [])
    ∙ row_append (in_row q (key m.flags m.key)) (culture m.culture) (version m.version ∷ [])))

module _ (externs : List ExternAssembly) where
  pub items_done : (q a b d e f g new : Page) (m : Manifest) (n : ℕ) (attributes : List Attribute) (bytes text : List ℕ) → attributes ≡ m.attributes →
      n ≡ m.hash → bytes ≡ m.key → text ≡ m.culture → a ≡ customs_drawn externs q attributes → b ≡ drawn a (line word.DOT_HASH none) →
      d ≡ drawn b (w word.ALGORITHM none) → e ≡ drawn d (token kind.Int (hexadecimal 8 n) none) → f ≡ in_row e (key m.flags bytes) →
      g ≡ in_row f (culture text) → new ≡ under g (version m.version) → new ≡ in_row q (assembly_items externs m)
  items_done q a b d e f g new m n attributes bytes text ea en eb et ha hb hd he hf hg hn =
      let cs = customs externs p.ASSEMBLY_ITEM_CUSTOM m.attributes in
      let more = hash_algorithm externs m.hash ∷ all_below p.ASSEMBLY_ITEM_KEY (key m.flags m.key ++ (culture m.culture ++ version m.version ∷ [])) in
      let fa : a ≡ in_row q cs = ha ∙ (ap (λ xs. customs_drawn externs q xs) ea ∙ sym (customs_are externs p.ASSEMBLY_ITEM_CUSTOM q m.attributes)) in
      let fe : e ≡ under (in_row q cs) (hash_algorithm externs m.hash) =
      he ∙ (ap (λ k. drawn d (token kind.Int (hexadecimal 8 k) none)) en
      ∙ ap (λ r. drawn r (token kind.Int (hexadecimal 8 m.hash) none))
      (hd ∙ ap (λ r. drawn r (w word.ALGORITHM none)) (hb ∙ ap (λ r. drawn r (line word.DOT_HASH none)) fa))) in
      let ff : f ≡ in_row (under (in_row q cs) (hash_algorithm externs m.hash)) (key m.flags m.key) =
      hf ∙ (ap (λ bs. in_row e (key m.flags bs)) eb ∙ ap (λ r. in_row r (key m.flags m.key)) fe) in
      hn
      ∙ (ap (λ r. under r (version m.version)) (hg ∙ (ap (λ t. in_row f (culture t)) et ∙ ap (λ r. in_row r (culture m.culture)) ff))
      ∙ (keys_are (under (in_row q cs) (hash_algorithm externs m.hash)) m ∙ sym (row_append q cs more)))

  pub assembly_done : (q a b d e f new : Page) (m : Manifest) (text : List ℕ) → text ≡ m.name → a ≡ drawn q (line word.DOT_ASSEMBLY none) →
      b ≡ drawn a (assembly_flags m.flags none) → d ≡ drawn b (name text none) → e ≡ drawn d (line word.OPEN_BRACE none) →
      f ≡ in_row e (assembly_items externs m) → new ≡ drawn f (line word.CLOSE_BRACE none) → new ≡ under q (assembly_item externs m)
  assembly_done q a b d e f new m text et ha hb hd he hf hn =
      let named = drawn (drawn (drawn q (line word.DOT_ASSEMBLY none)) (assembly_flags m.flags none)) (name m.name none) in
      let fd : d ≡ named =
      hd ∙ (ap (λ t. drawn b (name t none)) et
      ∙ ap (λ r. drawn r (name m.name none)) (hb ∙ ap (λ r. drawn r (assembly_flags m.flags none)) ha)) in
      hn
      ∙ ap (λ r. drawn r (line word.CLOSE_BRACE none))
      (hf ∙ (ap (λ r. in_row r (assembly_items externs m)) (he ∙ ap (λ r. drawn r (line word.OPEN_BRACE none)) fd)
      ∙ sym (star_row p.ASSEMBLY_ITEM_STAR_MORE p.ASSEMBLY_ITEM_STAR_END (drawn named (line word.OPEN_BRACE none)) (assembly_items externs m))))

  pub manifest_done : (q a b d e new : Page) (m : Manifest) (attributes : List Attribute) (text : List ℕ) → attributes ≡ m.module_attributes →
      text ≡ m.«module» → a ≡ under q (assembly_item externs m) → b ≡ drawn a (line word.DOT_MODULE none) → d ≡ drawn b (name text none) →
      e ≡ customs_drawn externs d attributes → new ≡ in_row e (header_lines [] m) → new ≡ in_row q (manifest_lines externs m)
  unfolding manifest_lines
  manifest_done q a b d e new m attributes text ea et ha hb hd he hn =
      let cs = customs externs p.DECL_CUSTOM m.module_attributes in
      let front = drawn (drawn (under q (assembly_item externs m)) (line word.DOT_MODULE none)) (name m.«module» none) in
      let fd : d ≡ front =
      hd ∙ (ap (λ t. drawn b (name t none)) et ∙ ap (λ r. drawn r (name m.«module» none)) (hb ∙ ap (λ r. drawn r (line word.DOT_MODULE none)) ha)) in
      let fe : e ≡ in_row front cs =
      he ∙ (ap (λ xs. customs_drawn externs d xs) ea ∙ (ap (λ r. customs_drawn externs r m.module_attributes) fd
      ∙ sym (customs_are externs p.DECL_CUSTOM front m.module_attributes))) in
      hn ∙ (ap (λ r. in_row r (header_lines externs m)) fe ∙ sym (row_append front cs (header_lines externs m)))
