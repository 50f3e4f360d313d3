-- A change of one file leaves the others.
use Rattle.std.proofs.Common.{◌≡◌, ◌≢◌, ◌≤◌, List, ℕ, Option, Some, [], Result, Ok, Err, OnOk, OnErr, IsSomeAnd, true, false, cond, sym, ap, ◌∙◌, refl, subst}
use Rattle.std.specs.String.{string_cmp, string_bytes}
use Rattle.std.specs.Cmp.Lexicographic.{slice_cmp}
use Rattle.std.specs.Ordering.{nat_cmp}
use Rattle.std.specs.BTreeMap as tree
use Rattle.std.specs.Option.{option_map_or, option_map}
use Rattle.std.specs.Str.{bytes_eq}
use Rattle.std.proofs.lemmas.Map.Text.{btree_map_updates_text}
use Rattle.std.proofs.lemmas.Slice.Eq.{bytes_eq-Decides}
use Rattle.std.proofs.lemmas.Bool.{false_from_ne_true}
use Rattle.il_base.specs.Outside.{ChangesOnly}
use Rattle.il_base.specs.Stock.{Held, Stock, Puts, held_at, bytes_of, HasRoomIn, KeepsRoomIn}
use Rattle.il_base.specs.StoredFiles.{stock_of}
use Rattle.il_base.specs.declared.stored_files.StoredFiles.{StoredFiles}

-- an update of the map puts the value
pub puts : (before now : StoredFiles) (name : List ℕ) (held : Held) → tree.UpdatesBy string_cmp (λ k. slice_cmp nat_cmp name (string_bytes k)) before.files now.files (Some held) → Puts (stock_of before) (stock_of now) name held
puts before now name held updates = record {
  here = btree_map_updates_text name before.files now.files (Some held) updates name ∙ ap (λ b. cond b (Some held) (stock_of before name)) ((bytes_eq-Decides name name).1 refl);
  others = λ other apart. btree_map_updates_text name before.files now.files (Some held) updates other ∙ ap (λ b. cond b (Some held) (stock_of before other)) (false_from_ne_true _ (λ e. apart (sym ((bytes_eq-Decides name other).0 e))));
}

differs : (name other : List ℕ) → bytes_eq name other ≡ false → other ≢ name
differs name other apart same = subst (λ n. bytes_eq name n ≡ false → ⊥) (sym same) (λ never. let yes = (bytes_eq-Decides name name).1 refl in cc) apart

pub held_at-some : (stock : Stock) (name : List ℕ) (held : Held) → stock name ≡ Some held → held_at stock name ≡ held
held_at-some stock name held is = ap (λ o. option_map_or (λ h. h) o (record { bytes = []; room = 0 })) is

-- what is put is as before, so all is
pub puts_same : (before now : Stock) (name : List ℕ) (held : Held) → before name ≡ Some held → Puts before now name held → now ≡ before
puts_same before now name held is to = λ i q. at_each q i
  where
    at_each : (q : List ℕ) → now q ≡ before q
    at_each q = elim (bytes_eq name q) as (λ b. bytes_eq name q ≡ b → now q ≡ before q) [
      | true ↦ λ e. let same = (bytes_eq-Decides name q).0 e in let P : List ℕ → Type 0 = λ n. now n ≡ before n in subst P same (to.here ∙ sym is)
      | false ↦ λ e. to.others q (differs name q e)
    ] refl

-- what both outcomes give
pub on_either : {T E P Q X : Type 0} (r : Result T E) → OnOk r P → OnErr r Q → (P → X) → (Q → X) → X
on_either (Ok v) p q f g = f p
on_either (Err e) p q f g = g q

pub bytes_of-same : (before now : Stock) → now ≡ before → bytes_of now ≡ bytes_of before
bytes_of-same before now same = ap bytes_of same

pub others-put : (before now : Stock) (name : List ℕ) (held : Held) → Puts before now name held → ChangesOnly name (bytes_of before) (bytes_of now)
others-put before now name held to = λ other apart. ap (option_map (λ h. h.bytes)) (to.others other apart)

pub others-same : (before now : Stock) (name : List ℕ) → now ≡ before → ChangesOnly name (bytes_of before) (bytes_of now)
others-same before now name same = λ other apart. ap (λ stock. bytes_of stock other) same

pub keeps_room-same : (before now : Stock) → now ≡ before → KeepsRoomIn before now
keeps_room-same before now same = λ name count has.
    let P : Stock → Type 0 = λ stock. HasRoomIn stock name count in subst P (sym same) has

pub keeps_room-put : (before now : Stock) (name : List ℕ) (held : Held) → Puts before now name held → ((count : ℕ) → HasRoomIn before name count → count ≤ held.room) → KeepsRoomIn before now
keeps_room-put before now name held to room = λ other count has.
    let Q : Option Held → Type 0 = λ o. IsSomeAnd o (λ h. count ≤ h.room) in
    elim (bytes_eq name other) as (λ b. bytes_eq name other ≡ b → HasRoomIn now other count) [
      | true ↦ λ e.
          let same = (bytes_eq-Decides name other).0 e in
          let P : List ℕ → Type 0 = λ n. HasRoomIn before n count → HasRoomIn now n count in
          subst P same (λ had. subst Q (sym to.here) (room count had)) has
      | false ↦ λ e. subst Q (sym (to.others other (differs name other e))) has
    ] refl
