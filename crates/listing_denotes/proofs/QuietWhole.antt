-- A listing breaks no rule where its declarations break none.
use Rattle.std.proofs.Common.{◌≡◌, ◌+◌, List, [], ◌∷◌, ◌++◌, refl, sym, subst}
use Rattle.ilasm_grammar.specs.declared.productions.TheConstants as p
use Rattle.assembly_tree.specs.declared.assembly.Assembly.{Assembly}
use Rattle.source_model.specs.Forest as f
use Rattle.source_model.specs.Nodes.{nodes, nodes_in, nothing_around}
use Rattle.source_model.specs.Source.{Source}
use Rattle.faultless_nodes.specs.Laws.{EachBreaksNothing, UnaskedBreakNothing}
use Rattle.listing_model.specs.Canon.{canon, declarations, source_of}
use Rattle.listing_model.specs.Shown.{Item, size, star_production, star_below}
use Rattle.listing_reading.specs.Numbered.{numbered}
use Rattle.listing_denotes.specs.Faults.{QuietListingsDenote}
use Rattle.listing_declarations.specs.Laws.{IsListingOf, extern_items, manifest_items, type_items, field_items, global_items, data_items, manifest_place, types_place, fields_place, methods_place}
use Rattle.listing_denotes.specs.Quiet.{ItemsBreakNothing, RowsBreakNothing, DataBreakNothing, OthersBreakNothing, ListingsBreakByDeclarations, DeclarationsDenote}
use Rattle.listing_denotes.proofs.QuietRows.{over, behind_it}

module _ (unasked : UnaskedBreakNothing) (rows : RowsBreakNothing) (s : Source) (a : Assembly) where
  source_quiet : (ds : List Item) → ItemsBreakNothing s nothing_around 0 ds → EachBreaksNothing s (nodes_in s nothing_around (numbered 0 (source_of a ds)))
  source_quiet [] h = tt
  source_quiet (d ∷ ds) h =
      let own = numbered 0 d.below in
      let others = f.branch (star_production p.DECL_STAR_MORE p.DECL_STAR_END ds) (numbered (0 + size d.below) (star_below p.DECL_STAR_MORE p.DECL_STAR_END ds)) f.none in
      over unasked s nothing_around p.SOURCE (f.branch d.production own others) f.none refl
      (behind_it unasked s nothing_around d.production own others h.0 (rows.row s nothing_around p.DECL_STAR_MORE p.DECL_STAR_END refl refl ds (0 + size d.below) f.none h.1 tt)) tt

  module _ (listed : IsListingOf s a) where
    tree_is : s.tree ≡ numbered 0 (source_of a (declarations a))
    unfolding canon
    tree_is = listed.tree

    abbrev from5 : List Item
    from5 = global_items a ++ data_items a

    abbrev from4 : List Item
    from4 = field_items a ++ from5

    abbrev from3 : List Item
    from3 = type_items a ++ from4

    abbrev from2 : List Item
    from2 = manifest_items a ++ from3

    each_quiet : DataBreakNothing → OthersBreakNothing s a → EachBreaksNothing s (nodes s)
    unfolding nodes
    each_quiet contents others =
        let q5 = rows.joined s nothing_around (methods_place a) (global_items a) (data_items a) others.methods (contents s a listed) in
        let q4 = rows.joined s nothing_around (fields_place a) (field_items a) from5 others.fields q5 in
        let q3 = rows.joined s nothing_around (types_place a) (type_items a) from4 others.types q4 in
        let q2 = rows.joined s nothing_around (manifest_place a) (manifest_items a) from3 others.manifest q3 in
        let q1 : ItemsBreakNothing s nothing_around 0 (declarations a) = rows.joined s nothing_around 0 (extern_items a) from2 others.externs q2 in
        subst (λ (g : f.Forest). EachBreaksNothing s (nodes_in s nothing_around g)) (sym tree_is) (source_quiet (declarations a) q1)

pub listings_break_by_declarations : UnaskedBreakNothing → RowsBreakNothing → DataBreakNothing → ListingsBreakByDeclarations
listings_break_by_declarations unasked rows contents s a listed others = each_quiet unasked rows s a listed contents others

pub declarations_denote : QuietListingsDenote → ListingsBreakByDeclarations → DeclarationsDenote
declarations_denote quiet by_declarations a listed utf8 others = quiet a listed utf8 (λ s is. by_declarations s a is (others s is))
