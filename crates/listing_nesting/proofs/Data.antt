-- Data that stand among all, and the fields that have them.
use Rattle.std.proofs.Common.{◌≡◌, ℕ, zero, suc, ◌+◌, ◌<◌, true, List, [], ◌∷◌, ◌++◌, length, slice_get, Option, None, Some, refl, ap, sym, subst, ◌∙◌, arith}
use Rattle.std.proofs.lemmas.Bool.{and_parts, eqb-true, false≢true}
use Rattle.std.specs.List.{list_all}
use Rattle.type_terms.specs.declared.term.SigType.{SigType}
use Rattle.assembly_tree.specs.DataSize.{size_in_data}
use Rattle.assembly_tree.specs.WellFormedMembers.{is_content, is_field}
use Rattle.assembly_tree.specs.declared.assembly.Assembly.{Assembly}
use Rattle.assembly_tree.specs.declared.members.Field.{Field}
use Rattle.assembly_tree.proofs.FormedFacts.{fields_named}
use Rattle.source_model.specs.Source.{Source}
use Rattle.listing_groups.specs.Laws.{HaveContents}
use Rattle.listing_members.specs.Laws.{HasContent}
use Rattle.listing_model.specs.Canon.{contents}
use Rattle.listing_model.specs.Members.{contents_then, field_contents, behind_field}
use Rattle.listing_nesting.specs.Laws.{HasData, StandAt}

-- ---- places in lists

got_front : (xs ys : List (List ℕ)) (j : ℕ) (x : List ℕ) → slice_get xs j ≡ Some x → slice_get (xs ++ ys) j ≡ Some x
got_front [] ys zero x e = absurd cc
got_front [] ys (suc j) x e = absurd cc
got_front (y ∷ xs) ys zero x e = e
got_front (y ∷ xs) ys (suc j) x e = got_front xs ys j x e

got_behind : (xs ys : List (List ℕ)) (j : ℕ) (x : List ℕ) → slice_get ys j ≡ Some x → slice_get (xs ++ ys) (length xs + j) ≡ Some x
got_behind [] ys j x e = let same : 0 + j ≡ j = omega arith in ap (slice_get ys) same ∙ e
got_behind (y ∷ xs) ys j x e =
    let same : suc (length xs) + j ≡ suc (length xs + j) = omega arith in ap (slice_get (y ∷ (xs ++ ys))) same ∙ got_behind xs ys j x e

got_less : (xs : List (List ℕ)) (j : ℕ) (x : List ℕ) → slice_get xs j ≡ Some x → j < length xs
got_less [] zero x e = absurd cc
got_less [] (suc j) x e = absurd cc
got_less (y ∷ xs) zero x e = omega arith
got_less (y ∷ xs) (suc j) x e = let less = got_less xs j x e in omega arith

pub stand_front : (k : ℕ) (xs ys all : List (List ℕ)) → StandAt k (xs ++ ys) all → StandAt k xs all
stand_front k xs ys all h j x e = h j x (got_front xs ys j x e)

pub stand_behind : (k : ℕ) (xs ys all : List (List ℕ)) → StandAt k (xs ++ ys) all → StandAt (k + length xs) ys all
stand_behind k xs ys all h j x e =
    let same : k + (length xs + j) ≡ (k + length xs) + j = omega arith in
    subst (λ m. slice_get all m ≡ Some x) same (h (length xs + j) x (got_behind xs ys j x e))

stand_next : (k : ℕ) (y : List ℕ) (ys all : List (List ℕ)) → StandAt k (y ∷ ys) all → StandAt (suc k) ys all
stand_next k y ys all h j x e =
    let same : k + suc j ≡ suc k + j = omega arith in
    subst (λ m. slice_get all m ≡ Some x) same (h (suc j) x e)

-- ---- fields

module _ (s : Source) (a : Assembly) (has : HasData s a) where
  content_size : (o : Option ℕ) (bytes : List ℕ) → is_content o (Some bytes) ≡ true → o ≡ Some (length bytes)
  content_size None bytes e = absurd (false≢true e)
  content_size (Some n) bytes e = ap (λ k. Some k) (sym (eqb-true (length bytes) n e))

  content_there : (of : SigType) (c : Option (List ℕ)) → is_content (size_in_data a of) c ≡ true → (xs : List Field) → ((k : ℕ) → StandAt k (field_contents xs) (contents a) → HaveContents s k xs) →
      (k : ℕ) → StandAt k (contents_then c (field_contents xs)) (contents a) → HasContent s of k c × HaveContents s (behind_field k c) xs
  content_there of None w xs rest k st = (tt, rest k st)
  content_there of (Some bytes) w xs rest k st =
      let at : k + 0 ≡ k = omega arith in
      let here : slice_get (contents a) k ≡ Some bytes = subst (λ m. slice_get (contents a) m ≡ Some bytes) at (st 0 bytes refl) in
      let less = got_less (contents a) k bytes here in
      let few = has.few in
      (record { few = omega arith; sized = has.sizes of ∙ content_size (size_in_data a of) bytes w; given = has.given k bytes here }, rest (suc k) (stand_next k bytes (field_contents xs) (contents a) st))

  pub contents_there : (xs : List Field) → list_all (is_field a) xs ≡ true → (k : ℕ) → StandAt k (field_contents xs) (contents a) → HaveContents s k xs
  contents_there [] m k st = tt
  contents_there (x ∷ xs) m k st =
      let ms = and_parts (is_field a x) (list_all (is_field a) xs) m in
      let f = (fields_named a x).0 ms.0 in
      content_there x.of x.content f.content xs (λ j later. contents_there xs ms.1 j later) k st
