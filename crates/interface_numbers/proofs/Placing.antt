-- Rows of InterfaceImpl get the places of their groups, one after the other.
use Rattle.std.proofs.Common.{◌≡◌, ℕ, zero, suc, ◌+◌, ◌*◌, ◌-◌, ◌^◌, ◌<◌, ◌≤◌, inl, inr, Bool, true, false, cond, nat_eq, List, [], ◌∷◌, ◌++◌, length, get_or, Option, Some, None, refl, sym, ◌∙◌, ap, subst, arith, length-append}
use Rattle.std.specs.Prelude.{if◌then◌else◌, ◌==◌}
use Rattle.std.proofs.lemmas.Bool.{cases_eq, cases_lt, eq-eqb, ne_eqb}
use Rattle.std.proofs.lemmas.Option.{same_Some}
use Rattle.hash_places.specs.Slots.{place_of}
use Rattle.hash_places.specs.declared.slots.Slot.{Slot}
use Rattle.metadata_tables.specs.declared.coded.Coded.TheVariants.{TypeDefOrRef}
use Rattle.image_model.specs.Columns.{interface_type, type_spec_signature}
use Rattle.image_model.specs.Rows.{HasRow, Names}
use Rattle.image_namings.proofs.General.{names_one}
use Rattle.interface_numbers.specs.Places.{AreHeads, AreFound, IsPlace, ArePlaced, HaveOneKey}
use Rattle.interface_numbers.specs.Rows.{NameTypes, NamesType, HasKey, key_by}

-- ---- rows

pub named_is : (image : List ℕ) (row table type : ℕ) → NameTypes image → HasRow image 0x09 row → Names TypeDefOrRef (interface_type image row) table type → NamesType image row table type
named_is image row table type types there h =
    let n = types row there in
    let same = names_one TypeDefOrRef (interface_type image row) n.0 n.1 table type n.2.names h in
    subst (λ (r : ℕ). NamesType image row table r) same.1 (subst (λ (t : ℕ). NamesType image row t n.1) same.0 n.2)

pub spec_key : (image : List ℕ) (row table type index key : ℕ) → NamesType image row table type → table ≡ 0x1B → index ≡ type_spec_signature image type → key ≡ index * 2 + 1 → HasKey image row key
spec_key image row table type index key n e i k = (
  table,
  type,
  n,
  k ∙ ap (λ (x : ℕ). x * 2 + 1) i ∙ sym (ap (λ (b : Bool). if b then type_spec_signature image type * 2 + 1 else interface_type image row * 2) (eq-eqb table 0x1B e)),
)

pub name_key : (image : List ℕ) (row table type value key : ℕ) → NamesType image row table type → (table ≡ 0x1B → ⊥) → value ≡ interface_type image row → key ≡ value * 2 → HasKey image row key
name_key image row table type value key n e i k = (
  table,
  type,
  n,
  k ∙ ap (λ (x : ℕ). x * 2) i ∙ sym (ap (λ (b : Bool). if b then type_spec_signature image type * 2 + 1 else interface_type image row * 2) (ne_eqb table 0x1B e)),
)

-- ---- lists

pub front_stays : (xs ys : List ℕ) (k : ℕ) → k < length xs → get_or (xs ++ ys) k 0 ≡ get_or xs k 0
front_stays [] ys k l = absurd (omega arith)
front_stays (x ∷ xs) ys zero l = refl
front_stays (x ∷ xs) ys (suc k) l = front_stays xs ys k (omega arith)

pub last_there : (xs : List ℕ) (v : ℕ) → get_or (xs ++ v ∷ []) (length xs) 0 ≡ v
last_there [] v = refl
last_there (x ∷ xs) v = last_there xs v

-- ---- groups

pub found_none : (image : List ℕ) (newest : List Slot) (heads : List ℕ) → ((h : ℕ) → place_of newest h ≡ None) → heads ≡ 0 ∷ [] → AreFound image newest heads
found_none image newest heads none e =
    let l = ap (λ (xs : List ℕ). length xs) e in record {
      some = omega (arith, l);
      rows = λ place some less. absurd (omega (arith, l, some, less));
      found = λ key place is. absurd (let f = sym (none key) ∙ is in cc);
    }

pub found_more : (image : List ℕ) (old new : List Slot) (heads : List ℕ) (row key : ℕ) → HasRow image 0x09 row → HasKey image row key → AreFound image old heads
    → ((q : ℕ) → place_of new q ≡ cond (nat_eq key q) (Some (length heads)) (place_of old q)) → AreFound image new (heads ++ row ∷ [])
found_more image old new heads row key there has are is =
    let l = length-append heads (row ∷ []) in record {
      some = omega (arith, l);
      rows = λ place some less. elim (cases_lt place (length heads)) [
        | inl low ↦ subst (HasRow image 0x09) (sym (front_stays heads (row ∷ []) place low)) (are.rows place some low)
        | inr high ↦
            let e : place ≡ length heads = omega (arith, l, less, high) in
            subst (HasRow image 0x09) (sym (ap (λ (k : ℕ). get_or (heads ++ row ∷ []) k 0) e ∙ last_there heads row)) there
      ];
      found = λ q place e. elim (cases_eq key q) [
        | inl same ↦
            let at : place_of new q ≡ Some (length heads) = is q ∙ ap (λ (b : Bool). cond b (Some (length heads)) (place_of old q)) (eq-eqb key q same) in
            let here : length heads ≡ place = same_Some (length heads) place (sym at ∙ e) in
            let some = are.some in
            let row_is : row ≡ get_or (heads ++ row ∷ []) place 0 = sym (last_there heads row) ∙ ap (λ (k : ℕ). get_or (heads ++ row ∷ []) k 0) here in
            (omega (arith, some, here), omega (arith, l, here), subst (λ (r : ℕ). HasKey image r q) row_is (subst (HasKey image row) same has))
        | inr differs ↦
            let at : place_of new q ≡ place_of old q = is q ∙ ap (λ (b : Bool). cond b (Some (length heads)) (place_of old q)) (ne_eqb key q differs) in
            let f = are.found q place (sym at ∙ e) in
            let low = f.1 in
            (f.0, omega (arith, l, low), subst (λ (r : ℕ). HasKey image r q) (sym (front_stays heads (row ∷ []) place low)) f.2)
      ];
    }

pub place_new : (image : List ℕ) (heads : List ℕ) (row key : ℕ) → 0 < length heads → HasKey image row key → IsPlace image (heads ++ row ∷ []) row (length heads)
place_new image heads row key some has =
    let l = length-append heads (row ∷ []) in
    (some, omega (arith, l), (key, subst (λ (r : ℕ). HasKey image r key) (sym (last_there heads row)) has, has))

pub placed_none : (image : List ℕ) (places heads : List ℕ) → places ≡ 0 ∷ [] → heads ≡ 0 ∷ [] → ArePlaced image 0 places heads
placed_none image places heads e f =
    let l = ap (λ (xs : List ℕ). length xs) e in
    let m = ap (λ (xs : List ℕ). length xs) f in record {
      long = omega (arith, l);
      some = omega (arith, m);
      few = omega (arith, m);
      rows = λ place some less. absurd (omega (arith, m, some, less));
      each = λ row some less. absurd (omega (arith, some, less));
    }

pub placed_more : (image : List ℕ) (newest : List Slot) (places heads more : List ℕ) (upto place : ℕ) → ArePlaced image upto places heads → AreFound image newest more → length heads ≤ length more → length more ≤ length heads + 1
    → ((p : ℕ) → p < length heads → get_or more p 0 ≡ get_or heads p 0) → IsPlace image more (upto + 1) place → ArePlaced image (upto + 1) (places ++ place ∷ []) more
placed_more image newest places heads more upto place so found least most stay is =
    let l = length-append places (place ∷ []) in
    let long = so.long in
    let few = so.few in
    let some = so.some in record {
      long = omega (arith, l, long);
      some = omega (arith, some, least);
      few = omega (arith, few, most);
      rows = found.rows;
      each = λ row some less. elim (cases_lt row (upto + 1)) [
        | inl low ↦
            let h = so.each row some (omega (arith, low)) in
            let at : get_or (places ++ place ∷ []) row 0 ≡ get_or places row 0 = front_stays places (place ∷ []) row (omega (arith, low, long)) in
            let inside = h.1 in
            let k = h.2 in
            subst (IsPlace image more row) (sym at) (h.0, omega (arith, inside, least), (k.0, subst (λ (r : ℕ). HasKey image r k.0) (sym (stay (get_or places row 0) inside)) k.1, k.2))
        | inr high ↦
            let e : row ≡ upto + 1 = omega (arith, less, high) in
            let at : get_or (places ++ place ∷ []) row 0 ≡ place =
            ap (λ (k : ℕ). get_or (places ++ place ∷ []) k 0) (e ∙ sym long) ∙ last_there places place in
            subst (IsPlace image more row) (sym at) (subst (λ (r : ℕ). IsPlace image more r place) (sym e) is)
      ];
    }

pub heads_are : (image : List ℕ) (upto : ℕ) (places heads : List ℕ) → ArePlaced image upto places heads → AreHeads image (length heads - 1) heads
heads_are image upto places heads so =
    let some = so.some in record {
      long = omega (arith, some);
      rows = λ place more less. so.rows place more (omega (arith, some, less));
    }
