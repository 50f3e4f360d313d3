-- The head of a type is read back: its name, its flags, its base and its interfaces.
use Rattle.std.proofs.Common.{◌≡◌, ℕ, suc, ◌<◌, ◌^◌, ◌&&◌, ◌||◌, not, nat_eq, Bool, true, false, cond, if◌then◌else◌, List, [], ◌∷◌, ◌++◌, take, drop, bit_and, Option, None, Some, refl, ap, ◌∙◌, append-nil, arith}
use Rattle.std.proofs.lemmas.Bool.{and_parts, false≢true}
use Rattle.std.specs.List.{list_all}
use Rattle.std.specs.Ordering.{is_lt}
use Rattle.std.specs.Prelude.{is_none, is_some, option_map}
use Rattle.std.specs.declared.cmp.Ordering.{Ordering}
use Rattle.std.specs.declared.cmp.Ordering.TheVariants.{Less, Equal, Greater}
use Rattle.ilasm_grammar.specs.Ilasm.{ilasm, rule_by, has_bit}
use Rattle.ilasm_grammar.specs.declared.productions.TheConstants as p
use Rattle.il_lexer.specs.declared.word.TheConstants as word
use Rattle.type_terms.specs.Order.{owner_order}
use Rattle.type_terms.specs.declared.term.Owner.{Owner}
use Rattle.assembly_tree.specs.WellFormedNames.{option_all, rises, before_first, is_system_object}
use Rattle.assembly_tree.specs.WellFormedTerms.{is_owner}
use Rattle.assembly_tree.specs.WellFormedTypes.{is_base, is_interface, is_owner_before}
use Rattle.assembly_tree.specs.declared.assembly.Assembly.{Assembly}
use Rattle.source_model.specs.Classes as read
use Rattle.source_model.specs.Classes.{rising, put_before}
use Rattle.source_model.specs.Flags as flags
use Rattle.source_model.specs.Forest as f
use Rattle.source_model.specs.Nodes.{Around, id_of_texts, type_id, class_token}
use Rattle.source_model.specs.Source.{Source}
use Rattle.source_model.specs.Types.{owners_in, types_in, first_owner, the_owner}
use Rattle.source_model.specs.Values.{part_texts}
use Rattle.listing_flags.specs.Laws.{FlagsAreRead}
use Rattle.listing_formed.specs.Laws.{Knows, FormedAreRead}
use Rattle.listing_growth.specs.Held.{is_owner_held}
use Rattle.listing_members.specs.Laws.{OwnersAreRead}
use Rattle.listing_model.specs.Classes as written
use Rattle.listing_model.specs.Flags.{type_flag_items}
use Rattle.listing_model.specs.Grown.{body_of, Grows}
use Rattle.listing_model.specs.Members.{typars}
use Rattle.listing_model.specs.Shown.{Shown, none, branch, put, w, Item, opt_below}
use Rattle.listing_model.specs.Types.{owner}
use Rattle.listing_reading.specs.Below.{below, cant_lead}
use Rattle.listing_reading.specs.BelowMasks.{below_masks}
use Rattle.listing_reading.specs.Laws.{SearchesPass}
use Rattle.listing_reading.specs.Numbered.{numbered, Agrees, rest, place}
use Rattle.listing_rows.specs.Laws.{OptionsAreRead}
use Rattle.listing_values.specs.Laws.{NamesAreRead}
use Rattle.listing_class_heads.specs.Laws.{Head, class_shown, IsFormed, ClassHeadsAreRead}

-- ---- where what is sought stands

pub record InClass : Type 0 where
  pub flags_behind : cant_lead (p.CLASS_ATTR_STAR_MORE ∷ []) (drop 2 (body_of p.CLASS)) ≡ true
  pub typars : cant_lead (p.TYPARS_OPT_SOME ∷ []) (take 3 (body_of p.CLASS)) ≡ true
  pub typars_behind : cant_lead (p.TYPARS_OPT_SOME ∷ []) (drop 4 (body_of p.CLASS)) ≡ true
  pub extends : cant_lead (p.EXTENDS_OPT_SOME ∷ []) (take 4 (body_of p.CLASS)) ≡ true
  pub extends_behind : cant_lead (p.EXTENDS_OPT_SOME ∷ []) (drop 5 (body_of p.CLASS)) ≡ true
  pub implements : cant_lead (p.IMPLEMENTS_OPT_SOME ∷ []) (take 5 (body_of p.CLASS)) ≡ true
  pub implements_behind : cant_lead (p.IMPLEMENTS_OPT_SOME ∷ []) (drop 6 (body_of p.CLASS)) ≡ true

in_class : InClass
unfolding ilasm rule_by has_bit below below_masks
in_class = record { flags_behind = refl; typars = refl; typars_behind = refl; extends = refl; extends_behind = refl; implements = refl; implements_behind = refl }

-- ---- owners that rise are kept as they are

put_first : (o : Owner) (os : List Owner) → before_first is_owner_before o os ≡ true → read.put o os ≡ o ∷ os
put_first o [] h = refl
put_first o (q ∷ os) h = by (owner_order o q) h
  where
    by : (r : Ordering) → is_lt r ≡ true → put_before r o q os (read.put o os) ≡ o ∷ (q ∷ os)
    by Less e = refl
    by Equal e = absurd (false≢true e)
    by Greater e = absurd (false≢true e)

rising_is : (os : List Owner) → rises is_owner_before os ≡ true → rising os ≡ os
rising_is [] h = refl
rising_is (o ∷ os) h =
    let hs = and_parts (before_first is_owner_before o os) (rises is_owner_before os) h in
    ap (read.put o) (rising_is os hs.1) ∙ put_first o os hs.0

-- ---- the head

module _ (names : NamesAreRead) (searches : SearchesPass) (s : Source) (a : Assembly) (h : Head) (formed_head : IsFormed a h) (members : List Item) (grown : Grows (body_of p.CLASS) (class_shown a.externs h members)) (at : ℕ) (ag : Agrees s at (class_shown a.externs h members)) where
  abbrev shown : Shown
  shown = class_shown a.externs h members

  abbrev g : f.Forest
  g = numbered at shown

  id_is : type_id s (class_token g) ≡ h.id
  id_is =
      let parts = and_parts _ _ formed_head.id in
      ap (λ t. id_of_texts (part_texts t)) ag.1.1.0.text ∙ names.type_name h.id.space h.id.name parts.0 parts.1

  small_32 : (k : ℕ) → k < 2 ^ 32 → k < 2 ^ 128
  small_32 k l = omega arith

  module _ (flag_laws : FlagsAreRead) (options : OptionsAreRead) where
    flags_are : flags.type_flags s g ≡ h.flags
    unfolding ilasm rule_by
    flags_are =
        ap (λ c. flags.flags_of s flags.type_words (flags.flags_in p.CLASS_ATTR_STAR_MORE p.CLASS_ATTR_STAR_END c))
        (options.row p.CLASS_ATTR_STAR_MORE p.CLASS_ATTR_STAR_END refl refl (type_flag_items h.flags) (suc at) (numbered (place 2 at shown) (rest 2 shown))
        (searches.child (p.CLASS_ATTR_STAR_MORE ∷ []) 7 (drop 2 (body_of p.CLASS)) in_class.flags_behind (rest 2 shown) (searches.rest 2 (body_of p.CLASS) shown grown) (place 2 at shown)))
        ∙ flag_laws.types s (suc at) h.flags (small_32 h.flags formed_head.flags) ag.1.0

    typars_at : f.child (p.TYPARS_OPT_SOME ∷ []) g ≡ numbered (place 3 at shown) (opt_below (typars a.externs h.generics))
    unfolding ilasm rule_by
    typars_at =
        searches.child (p.TYPARS_OPT_SOME ∷ []) 3 (body_of p.CLASS) in_class.typars shown grown at
        ∙ options.option p.TYPARS_OPT_SOME p.TYPARS_OPT_NONE refl refl (typars a.externs h.generics) (place 3 at shown) (numbered (place 4 at shown) (rest 4 shown))
        (searches.child (p.TYPARS_OPT_SOME ∷ []) 5 (drop 4 (body_of p.CLASS)) in_class.typars_behind (rest 4 shown) (searches.rest 4 (body_of p.CLASS) shown grown) (place 4 at shown))

    -- ---- the base

    abbrev extends_shown : Option Owner → Option Shown
    extends_shown x = option_map (λ o. branch p.EXTENDS (w word.EXTENDS (put (owner a.externs o) none)) none) x

    extends_at : f.child (p.EXTENDS_OPT_SOME ∷ []) g ≡ numbered (place 4 at shown) (opt_below (extends_shown h.extends))
    unfolding ilasm rule_by
    extends_at =
        searches.child (p.EXTENDS_OPT_SOME ∷ []) 4 (body_of p.CLASS) in_class.extends shown grown at
        ∙ options.option p.EXTENDS_OPT_SOME p.EXTENDS_OPT_NONE refl refl (extends_shown h.extends) (place 4 at shown) (numbered (place 5 at shown) (rest 5 shown))
        (searches.child (p.EXTENDS_OPT_SOME ∷ []) 4 (drop 5 (body_of p.CLASS)) in_class.extends_behind (rest 5 shown) (searches.rest 5 (body_of p.CLASS) shown grown) (place 5 at shown))

    implements_at : f.child (p.IMPLEMENTS_OPT_SOME ∷ []) g ≡ numbered (place 5 at shown) (opt_below (written.implements a.externs h.implements))
    unfolding ilasm rule_by
    implements_at =
        searches.child (p.IMPLEMENTS_OPT_SOME ∷ []) 5 (body_of p.CLASS) in_class.implements shown grown at
        ∙ options.option p.IMPLEMENTS_OPT_SOME p.IMPLEMENTS_OPT_NONE refl refl (written.implements a.externs h.implements) (place 5 at shown) (numbered (place 6 at shown) (rest 6 shown))
        (searches.child (p.IMPLEMENTS_OPT_SOME ∷ []) 3 (drop 6 (body_of p.CLASS)) in_class.implements_behind (rest 6 shown) (searches.rest 6 (body_of p.CLASS) shown grown) (place 6 at shown))

    module _ (formed : FormedAreRead) (around : Around) (knows : Knows s a) where
      abbrev base_by : Bool → f.Forest → Option Owner
      base_by c x =
          if c then None
          else if f.has p.EXTENDS x then Some (the_owner s around x)
          else if read.is_root around.path then None
          else read.named_object (read.core_scope s)

      base_given : (top c : Bool) (x : Option Owner) → cond c (is_none x) (is_some x || (top && is_system_object h.id)) ≡ true → ((top && is_system_object h.id) ≡ true → read.is_root around.path ≡ true) →
          option_all (is_owner a) x ≡ true → option_all is_owner_held x ≡ true → (k : ℕ) → Agrees s k (opt_below (extends_shown x)) →
          base_by c (numbered k (opt_below (extends_shown x))) ≡ x
      unfolding types_in
      base_given top true None e root m l k i = refl
      base_given top true (Some o) e root m l k i = absurd (false≢true e)
      base_given top false None e root m l k i = ap (λ c. if c then None else read.named_object (read.core_scope s)) (root e)
      base_given top false (Some o) e root m l k i = ap (λ os. Some (first_owner (os ++ []))) (formed.owners s around a knows o m l (suc k) i.0.1.0 f.none)

      base_is : (top : Bool) → is_base top h.id h.flags h.extends ≡ true → ((top && is_system_object h.id) ≡ true → read.is_root around.path ≡ true) → read.base s around g ≡ h.extends
      base_is top e root =
          ap (λ k. base_by (not (nat_eq (bit_and k 0x20) 0)) (f.child (p.EXTENDS_OPT_SOME ∷ []) g)) flags_are
          ∙ (ap (base_by (is_interface h.flags)) extends_at
          ∙ base_given top (is_interface h.flags) h.extends e root formed_head.extends formed_head.extends_held (place 4 at shown) ag.1.1.1.1.0)

      -- ---- interfaces

      module _ (owners : OwnersAreRead) where
        no_owner : (k : ℕ) → owners_in s around (numbered k none) ≡ []
        unfolding types_in
        no_owner k = refl

        owners_given : (os : List Owner) → list_all (is_owner a) os ≡ true → list_all is_owner_held os ≡ true → (k : ℕ) → Agrees s k (opt_below (written.implements a.externs os)) →
            owners_in s around (numbered k (opt_below (written.implements a.externs os))) ≡ os
        unfolding types_in
        owners_given [] m l k i = refl
        owners_given (o ∷ os) m l k i =
            ap (λ us. us ++ []) (owners s around a knows (o ∷ os) m l (suc k) none i.0.1 no_owner) ∙ append-nil (o ∷ os)

        interfaces_are : rising (owners_in s around (f.child (p.IMPLEMENTS_OPT_SOME ∷ []) g)) ≡ h.implements
        interfaces_are =
            ap (λ c. rising (owners_in s around c)) implements_at
            ∙ (ap rising (owners_given h.implements formed_head.implements formed_head.implements_held (place 5 at shown) ag.1.1.1.1.1.0) ∙ rising_is h.implements formed_head.rising)

pub class_heads_are_read : NamesAreRead → SearchesPass → FlagsAreRead → OptionsAreRead → FormedAreRead → OwnersAreRead → ClassHeadsAreRead
class_heads_are_read names searches flag_laws options formed owners = record {
  ids = λ s a h m members grown at ag. id_is names searches s a h m members grown at ag;
  flags = λ s a h m members grown at ag. flags_are names searches s a h m members grown at ag flag_laws options;
  bases = λ s around a knows h m members grown at ag top e root. base_is names searches s a h m members grown at ag flag_laws options formed around knows top e root;
  interfaces = λ s around a knows h m members grown at ag. interfaces_are names searches s a h m members grown at ag flag_laws options formed around knows owners;
  typars = λ s a h m members grown at ag. (typars_at names searches s a h m members grown at ag flag_laws options, ag.1.1.1.0);
}
