-- The rows of InterfaceImpl.
use Rattle.std.proofs.Common.{◌≡◌, ap, refl, sym, ◌∙◌, subst, ℕ, ◌+◌, ◌-◌, ◌<◌, ◌≤◌, ◌^◌, List, [], ◌∷◌, ◌++◌, map, length, arith}
use Rattle.std.specs.Prelude.{sum_by}
use Rattle.std.specs.List.{AllByRecursion, AllZip}
use Rattle.std.proofs.lemmas.Grind.{flat_map-append}
use Rattle.std.proofs.lemmas.List.{append-nil, append_assoc, length-append, length-map}
use Rattle.std.proofs.lemmas.List.Sorted.{IsPermutation-refl, length_permutation}
use Rattle.std.proofs.lemmas.List.Sums.{sum_by-cons, sum_by-append}
use Rattle.metadata_tables.specs.Encoding.{rows_of, rows_in, AddsRow, IsRowOf}
use Rattle.metadata_tables.specs.Laws.{RowOfColumns}
use Rattle.metadata_tables.specs.Schema.{schema}
use Rattle.assembly_tree.specs.Weight.{owner_weight}
use Rattle.type_terms.specs.declared.term.Owner.{Owner}
use Rattle.image_rows.specs.InterfaceRows.{class_interfaces, interfaces_from, count_interfaces, interface_bytes, joined, AreIndexes, AreInterfaceRows, PushesInterfaces, FindsIndexes, IsRising, CanPushInterfaces}
use Rattle.image_tokens.specs.Members.{Leaves}
use Rattle.image_members.specs.Pushing.{Tables, AddsRows}
use Rattle.image_tokens.specs.References.{size, Grows, AreKnown}
use Rattle.image_members.specs.TypeIndexes.{IsTypeIndex}
use Rattle.image_tokens.specs.Writable.{IsOwnerWritable}
use Rattle.image_members.specs.declared.classes.Class.{Class}
use Rattle.image_tokens.specs.declared.references.References.{References}
use Rattle.image_rows.proofs.EventLemmas.{type_index_kept}
use Rattle.image_tokens.proofs.GrowthLemmas.{grows_refl, grows_trans}
use Rattle.image_tokens.proofs.NameLemmas.{all_weaker}
use Rattle.image_members.proofs.PushLemmas.{rows_none, rows_one, rows_both}
use Rattle.image_tokens.proofs.WritableLemmas.{still_writable_owner}
use Rattle.image_members.proofs.ZipLemmas.{zip_both, zip_long, zip_later}

pub interface_cells : RowOfColumns → (type index : ℕ) → IsRowOf 0x09 (type ∷ index ∷ [])
unfolding schema
interface_cells law type index = law 0x09 (type ∷ index ∷ []) (omega arith) (tt, (tt, tt))

-- ---- coded indexes, type by type

indexes_kept : (a b : References) → Grows a b → (indexes : List ℕ) (owners : List Owner) → AreIndexes a indexes owners → AreIndexes b indexes owners
indexes_kept a b g indexes owners h = zip_later (λ index o. IsTypeIndex o a index) (λ index o. IsTypeIndex o b index) indexes owners (λ index o k. type_index_kept a b g o index k) h

-- those of the types before `rest` are found
pub record IndexesTo (a b : References) (done : List ℕ) (xs rest : List Owner) : Type 0 where
  pub on : (c : References) (more : List ℕ) → FindsIndexes rest b c more → FindsIndexes xs a c (done ++ more)
  pub known : AreKnown b
  pub can : AllByRecursion (IsOwnerWritable b) rest
  pub room : size b + sum_by owner_weight rest ≤ 2 ^ 26

pub indexes_begin : (a : References) (xs : List Owner) → AreKnown a → AllByRecursion (IsOwnerWritable a) xs → size a + sum_by owner_weight xs ≤ 2 ^ 26 → IndexesTo a a [] xs xs
indexes_begin a xs known can room = record { on = λ c more h. h; known = known; can = can; room = room }

module _ (a b : References) (done : List ℕ) (xs rest more : List Owner) (x : Owner) (e : rest ≡ x ∷ more) (d : IndexesTo a b done xs rest) where
  heavy : sum_by owner_weight rest ≡ owner_weight x + sum_by owner_weight more
  heavy = ap (sum_by owner_weight) e ∙ sum_by-cons owner_weight x more

  pub index_can : IsOwnerWritable b x
  index_can = (subst (λ ys. AllByRecursion (IsOwnerWritable b) ys) e d.can).0

  pub index_room : size b + owner_weight x ≤ 2 ^ 26
  index_room = let room = d.room in let sum = heavy in omega arith

  pub indexes_on : (c : References) (index : ℕ) (next : List ℕ) → Leaves (IsTypeIndex x) b c (owner_weight x) index → next ≡ done ++ index ∷ [] → IndexesTo a c next xs more
  indexes_on c index next t is = record {
    on = λ later others h. subst (FindsIndexes xs a later) (sym (append_assoc done (index ∷ []) others) ∙ ap (λ rs. rs ++ others) (sym is))
        (d.on later (index ∷ others) (subst (λ ys. FindsIndexes ys b later (index ∷ others)) (sym e) (record {
          grows = grows_trans b c later t.grows h.grows;
          known = h.known;
          room = (let first = t.room in let then = h.room in let sum = sum_by-cons owner_weight x more in omega arith);
          each = (type_index_kept c later h.grows x index t.is, h.each);
        })));
    known = t.known;
    can = all_weaker (IsOwnerWritable b) (IsOwnerWritable c) more (λ o k. still_writable_owner b c t.grows o k) (subst (λ ys. AllByRecursion (IsOwnerWritable b) ys) e d.can).1;
    room = (let room = d.room in let sum = heavy in let step = t.room in omega arith);
  }

pub indexes_end : (a b : References) (done : List ℕ) (xs rest : List Owner) → rest ≡ [] → IndexesTo a b done xs rest → FindsIndexes xs a b done
indexes_end a b done xs rest e d =
    subst (FindsIndexes xs a b) (append-nil done)
    (d.on b [] (subst (λ ys. FindsIndexes ys b b []) (sym e) (record { grows = grows_refl b; known = d.known; room = omega arith; each = tt })))

-- ---- the rows of one type

-- the indexes before `rest` have their rows
pub record RowsTo (row : ℕ) (from to : Tables) (xs rest : List ℕ) : Type 0 where
  pub on : (end : Tables) → AddsRows 0x09 (map (λ index. row ∷ index ∷ []) rest) to end → AddsRows 0x09 (map (λ index. row ∷ index ∷ []) xs) from end
  pub few : rows_in to 0x09 + length rest < 2 ^ 24

pub rows_begin : (row : ℕ) (from : Tables) (xs : List ℕ) → rows_in from 0x09 + length xs < 2 ^ 24 → RowsTo row from from xs xs
rows_begin row from xs few = record { on = λ end h. h; few = few }

module _ (row : ℕ) (from to : Tables) (xs rest more : List ℕ) (x : ℕ) (e : rest ≡ x ∷ more) (d : RowsTo row from to xs rest) where
  pub rows_few : rows_in to 0x09 < 2 ^ 24 - 1
  rows_few = let few = d.few in let long = ap (length {A = ℕ}) e in omega arith

  pub rows_on : (next : Tables) → AddsRow to next 0x09 (row ∷ x ∷ []) → RowsTo row from next xs more
  rows_on next h =
      let long = ap (length {A = ℕ}) e in
      let added = ap (length {A = List ℕ}) h.added ∙ length-append (rows_of to 0x09) ((row ∷ x ∷ []) ∷ []) in
      record {
        on = λ end k. d.on end (subst (λ ys. AddsRows 0x09 (map (λ index. row ∷ index ∷ []) ys) to end) (sym e)
            (rows_both 0x09 ((row ∷ x ∷ []) ∷ []) (map (λ index. row ∷ index ∷ []) more) to next end (rows_one 0x09 (row ∷ x ∷ []) to next h) k));
        few = (let few = d.few in omega arith);
      }

pub rows_end : (row : ℕ) (from to : Tables) (xs rest : List ℕ) → rest ≡ [] → RowsTo row from to xs rest → AddsRows 0x09 (map (λ index. row ∷ index ∷ []) xs) from to
rows_end row from to xs rest e d = d.on to (subst (λ ys. AddsRows 0x09 (map (λ index. row ∷ index ∷ []) ys) to to) (sym e) (rows_none 0x09 to))

pub interfaces_pushed : (a b : References) (from to : Tables) (row : ℕ) (owners : List Owner) (found sorted : List ℕ) → FindsIndexes owners a b found → IsRising found sorted
    → AddsRows 0x09 (map (λ index. row ∷ index ∷ []) sorted) from to → PushesInterfaces ((row, owners) ∷ []) a b from to
interfaces_pushed a b from to row owners found sorted f s h = record {
  grows = f.grows;
  known = f.known;
  room = (let room = f.room in let one = sum_by-cons interface_bytes (row, owners) [] in omega arith);
  groups = map (λ index. row ∷ index ∷ []) sorted ∷ [];
  adds = subst (λ rows. AddsRows 0x09 rows from to) (sym (append-nil (map (λ index. row ∷ index ∷ []) sorted))) h;
  each = (record { found = found; each = f.each; indexes = sorted; same = s.same; rise = s.rise; are = refl }, tt);
}

-- a type without interfaces has no rows
pub nothing_pushed : (a : References) (from : Tables) (row : ℕ) (owners : List Owner) → owners ≡ [] → AreKnown a → PushesInterfaces ((row, owners) ∷ []) a a from from
nothing_pushed a from row owners none known =
    subst (λ (os : List Owner). PushesInterfaces ((row, os) ∷ []) a a from from) (sym none)
    (interfaces_pushed a a from from row [] [] [] (record { grows = grows_refl a; known = known; room = omega arith; each = tt })
    (record { same = IsPermutation-refl []; rise = λ i j d le within. absurd (omega arith) }) (rows_none 0x09 from))

pub interfaces_room : (a : References) (from : Tables) (row : ℕ) (owners : List Owner) → CanPushInterfaces ((row, owners) ∷ []) a from → size a + sum_by owner_weight owners ≤ 2 ^ 26
interfaces_room a from row owners h = let room = h.room in let one = sum_by-cons interface_bytes (row, owners) [] in omega arith

pub interfaces_few : (a b : References) (from : Tables) (row : ℕ) (owners : List Owner) (found sorted : List ℕ) → CanPushInterfaces ((row, owners) ∷ []) a from → FindsIndexes owners a b found
    → IsRising found sorted → rows_in from 0x09 + length sorted < 2 ^ 24
interfaces_few a b from row owners found sorted h f s =
    let few = h.few in
    let one = sum_by-cons count_interfaces (row, owners) [] in
    let long = zip_long (λ index o. IsTypeIndex o b index) found owners f.each in
    let same = length_permutation found sorted s.same in
    omega arith

-- ---- type by type

group_count : (r : References) (rows : List (List ℕ)) (t : ℕ × List Owner) → AreInterfaceRows r rows t → length rows ≡ count_interfaces t
group_count r rows t h =
    ap (length {A = List ℕ}) h.are ∙ length-map h.indexes (λ (index : ℕ). t.0 ∷ index ∷ []) ∙ length_permutation h.found h.indexes h.same ∙ zip_long (λ index o. IsTypeIndex o r index) h.found t.1 h.each

groups_count : (r : References) (groups : List (List (List ℕ))) (types : List (ℕ × List Owner)) → AllZip (AreInterfaceRows r) groups types → length (joined groups) ≡ sum_by count_interfaces types
groups_count r [] [] h = refl
groups_count r [] (t ∷ types) h = absurd h
groups_count r (g ∷ groups) [] h = absurd h
groups_count r (g ∷ groups) (t ∷ types) h =
    length-append g (joined groups) ∙ ap (λ n. n + length (joined groups)) (group_count r g t h.0) ∙ ap (λ n. count_interfaces t + n) (groups_count r groups types h.1) ∙ sym (sum_by-cons count_interfaces t types)

pub rows_kept : (a b : References) → Grows a b → (rows : List (List ℕ)) (t : ℕ × List Owner) → AreInterfaceRows a rows t → AreInterfaceRows b rows t
rows_kept a b g rows t h = record { found = h.found; each = indexes_kept a b g h.found t.1 h.each; indexes = h.indexes; same = h.same; rise = h.rise; are = h.are }

pushed_both : (xs ys : List (ℕ × List Owner)) (a b c : References) (from via to : Tables) → PushesInterfaces xs a b from via → PushesInterfaces ys b c via to → PushesInterfaces (xs ++ ys) a c from to
pushed_both xs ys a b c from via to p q = record {
  grows = grows_trans a b c p.grows q.grows;
  known = q.known;
  room = (let first = p.room in let then = q.room in let both = sum_by-append interface_bytes xs ys in omega arith);
  groups = p.groups ++ q.groups;
  adds = subst (λ rows. AddsRows 0x09 rows from to) (sym (flat_map-append (λ (g : List (List ℕ)). g) p.groups q.groups)) (rows_both 0x09 (joined p.groups) (joined q.groups) from via to p.adds q.adds);
  each = zip_both (AreInterfaceRows c) p.groups q.groups xs ys
      (zip_later (AreInterfaceRows b) (AreInterfaceRows c) p.groups xs (λ rows t h. rows_kept b c q.grows rows t h) p.each) q.each;
}

pub record InterfacesTo (row : ℕ) (a b : References) (from to : Tables) (xs rest : List Class) : Type 0 where
  pub on : (c : References) (end : Tables) → PushesInterfaces (interfaces_from row rest) b c to end → PushesInterfaces (interfaces_from 2 xs) a c from end
  pub can : CanPushInterfaces (interfaces_from row rest) b to
  pub next : row + length rest < 2 ^ 24

pub interfaces_begin : (a : References) (from : Tables) (xs : List Class) → length xs < 2 ^ 24 - 2 → CanPushInterfaces (interfaces_from 2 xs) a from → InterfacesTo 2 a a from from xs xs
interfaces_begin a from xs few can = record { on = λ c end h. h; can = can; next = omega arith }

each_still : (a b : References) → Grows a b → (types : List (ℕ × List Owner)) → AllByRecursion (λ t. AllByRecursion (IsOwnerWritable a) t.1) types → AllByRecursion (λ t. AllByRecursion (IsOwnerWritable b) t.1) types
each_still a b g types h =
    all_weaker (λ (t : ℕ × List Owner). AllByRecursion (IsOwnerWritable a) t.1) (λ (t : ℕ × List Owner). AllByRecursion (IsOwnerWritable b) t.1) types
    (λ t k. all_weaker (IsOwnerWritable a) (IsOwnerWritable b) t.1 (λ o j. still_writable_owner a b g o j) k) h

module _ (row : ℕ) (a b : References) (from to : Tables) (xs rest more : List Class) (x : Class) (e : rest ≡ x ∷ more) (d : InterfacesTo row a b from to xs rest) where
  pub interface_row : row < 2 ^ 24
  interface_row = let next = d.next in omega arith

  module _ (owners : List Owner) (same : owners ≡ class_interfaces x) where
    abbrev later : List (ℕ × List Owner)
    later = interfaces_from (row + 1) more

    items : interfaces_from row rest ≡ (row, owners) ∷ interfaces_from (row + 1) more
    items = ap (interfaces_from row) e ∙ ap (λ os. (row, os) ∷ interfaces_from (row + 1) more) (sym same)

    can_all : CanPushInterfaces ((row, owners) ∷ interfaces_from (row + 1) more) b to
    can_all = subst (λ ts. CanPushInterfaces ts b to) items d.can

    pub interfaces_can : CanPushInterfaces ((row, owners) ∷ []) b to
    interfaces_can = record {
      known = can_all.known;
      each = (can_all.each.0, tt);
      few = (let few = can_all.few in let one = sum_by-cons count_interfaces (row, owners) [] in let all = sum_by-cons count_interfaces (row, owners) later in omega arith);
      room = (let room = can_all.room in let one = sum_by-cons interface_bytes (row, owners) [] in let all = sum_by-cons interface_bytes (row, owners) later in omega arith);
    }

    pub interfaces_on : (c : References) (next : Tables) → PushesInterfaces ((row, owners) ∷ []) b c to next → InterfacesTo (row + 1) a c from next xs more
    interfaces_on c next h = record {
      on = λ z end k. d.on z end (subst (λ ts. PushesInterfaces ts b z to end) (sym items) (pushed_both ((row, owners) ∷ []) later b c z to next end h k));
      can = record {
        known = h.known;
        each = each_still b c h.grows later can_all.each.1;
        few =
            let few = can_all.few in
            let all = sum_by-cons count_interfaces (row, owners) later in
            let one = sum_by-cons count_interfaces (row, owners) [] in
            let added = ap (length {A = List ℕ}) h.adds.added ∙ length-append (rows_of to 0x09) (joined h.groups) in
            let count = groups_count c h.groups ((row, owners) ∷ []) h.each in
            omega arith;
        room = (let room = can_all.room in let one = sum_by-cons interface_bytes (row, owners) [] in let all = sum_by-cons interface_bytes (row, owners) later in let step = h.room in omega arith);
      };
      next = (let next = d.next in let long = ap (length {A = Class}) e in omega arith);
    }

pub interfaces_end : (row : ℕ) (a b : References) (from to : Tables) (xs rest : List Class) → rest ≡ [] → InterfacesTo row a b from to xs rest → PushesInterfaces (interfaces_from 2 xs) a b from to
interfaces_end row a b from to xs rest e d =
    d.on b to (subst (λ cs. PushesInterfaces (interfaces_from row cs) b b to to) (sym e) (record {
      grows = grows_refl b;
      known = d.can.known;
      room = omega arith;
      groups = [];
      adds = rows_none 0x09 to;
      each = tt;
    }))
