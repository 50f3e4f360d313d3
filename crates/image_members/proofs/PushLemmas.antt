-- Rows of a table, some after others.
use Rattle.std.proofs.Common.{◌≡◌, ap, refl, sym, ◌∙◌, subst, ℕ, ◌+◌, ◌-◌, ◌<◌, ◌≤◌, ◌^◌, List, [], ◌∷◌, ◌++◌, length, arith}
use Rattle.std.specs.Prelude.{sum_by}
use Rattle.std.specs.List.{AllByRecursion, AllZip}
use Rattle.std.proofs.lemmas.List.{append-nil, append_assoc, length-append}
use Rattle.std.proofs.lemmas.List.Sums.{sum_by-cons, sum_by-append}
use Rattle.metadata_tables.specs.Encoding.{rows_of, rows_in, AddsRow}
use Rattle.image_members.specs.Pushing.{Tables, AddsRows, Pushes}
use Rattle.image_tokens.specs.References.{size, Grows, AreKnown}
use Rattle.image_tokens.specs.declared.references.References.{References}
use Rattle.image_tokens.proofs.GrowthLemmas.{grows_refl, grows_trans}
use Rattle.image_tokens.proofs.NameLemmas.{all_weaker}
use Rattle.image_members.proofs.ZipLemmas.{zip_both, zip_long, zip_later}

-- ---- rows alone

pub rows_none : (table : ℕ) (from : Tables) → AddsRows table [] from from
rows_none table from = record { added = sym (append-nil (rows_of from table)); others = λ other n. refl }

pub rows_one : (table : ℕ) (cells : List ℕ) (from to : Tables) → AddsRow from to table cells → AddsRows table (cells ∷ []) from to
rows_one table cells from to h = record { added = h.added; others = h.others }

pub rows_both : (table : ℕ) (xs ys : List (List ℕ)) (from via to : Tables) → AddsRows table xs from via → AddsRows table ys via to → AddsRows table (xs ++ ys) from to
rows_both table xs ys from via to p q = record {
  added = q.added ∙ ap (λ rows. rows ++ ys) p.added ∙ append_assoc (rows_of from table) xs ys;
  others = λ other n. q.others other n ∙ p.others other n;
}

pub all_front : {X : Type 0} (P : X → Type 0) (xs ys : List X) → AllByRecursion P (xs ++ ys) → AllByRecursion P xs
all_front P [] ys h = tt
all_front P (x ∷ xs) ys h = (h.0, all_front P xs ys h.1)

pub all_back : {X : Type 0} (P : X → Type 0) (xs ys : List X) → AllByRecursion P (xs ++ ys) → AllByRecursion P ys
all_back P [] ys h = h
all_back P (x ∷ xs) ys h = all_back P xs ys h.1

-- ---- rows of items

module _ {X : Type 0} (table : ℕ) (IsRow : References → List ℕ → X → Type 0) (weigh : X → ℕ)
    (kept : (a b : References) → Grows a b → (cells : List ℕ) (x : X) → IsRow a cells x → IsRow b cells x) where
  abbrev P : List X → References → References → Tables → Tables → Type 0
  P = Pushes table IsRow weigh

  pub pushes_none : (a : References) (from : Tables) → AreKnown a → P [] a a from from
  pushes_none a from known = record { grows = grows_refl a; known = known; room = omega arith; rows = []; adds = rows_none table from; each = tt }

  pub pushes_one : (a b : References) (from to : Tables) (cells : List ℕ) (x : X) → Grows a b → AreKnown b → size b ≤ size a + weigh x → AddsRow from to table cells
      → IsRow b cells x → P (x ∷ []) a b from to
  pushes_one a b from to cells x grows known room row is = record {
    grows = grows;
    known = known;
    room = (let one = sum_by-cons weigh x [] in omega arith);
    rows = cells ∷ [];
    adds = rows_one table cells from to row;
    each = (is, tt);
  }

  pub pushes_both : (xs ys : List X) (a b c : References) (from via to : Tables) → P xs a b from via → P ys b c via to → P (xs ++ ys) a c from to
  pushes_both xs ys a b c from via to p q = record {
    grows = grows_trans a b c p.grows q.grows;
    known = q.known;
    room = (let first = p.room in let then = q.room in let both = sum_by-append weigh xs ys in omega arith);
    rows = p.rows ++ q.rows;
    adds = rows_both table p.rows q.rows from via to p.adds q.adds;
    each = zip_both (IsRow c) p.rows q.rows xs ys (zip_later (IsRow b) (IsRow c) p.rows xs (λ cells x h. kept b c q.grows cells x h) p.each) q.each;
  }

  -- how many rows came
  pub pushes_count : (xs : List X) (a b : References) (from to : Tables) → P xs a b from to → rows_in to table ≡ rows_in from table + length xs
  pushes_count xs a b from to p =
      let long = ap (length {A = List ℕ}) p.adds.added ∙ length-append (rows_of from table) p.rows in
      let each = zip_long (IsRow b) p.rows xs p.each in
      omega arith

  module _ (Can : References → X → Type 0) (can_kept : (a b : References) → Grows a b → (x : X) → Can a x → Can b x) where
    -- the items before `rest` have their rows
    pub record PushesTo (a b : References) (from to : Tables) (xs rest : List X) : Type 0 where
      pub on : (c : References) (end : Tables) → P rest b c to end → P xs a c from end
      pub known : AreKnown b
      pub can : AllByRecursion (Can b) rest
      pub few : rows_in to table + length rest < 2 ^ 24
      pub room : size b + sum_by weigh rest ≤ 2 ^ 26

    pub pushes_begin : (a : References) (from : Tables) (xs : List X) → AreKnown a → AllByRecursion (Can a) xs → rows_in from table + length xs < 2 ^ 24
        → size a + sum_by weigh xs ≤ 2 ^ 26 → PushesTo a a from from xs xs
    pushes_begin a from xs known can few room = record { on = λ c end h. h; known = known; can = can; few = few; room = room }

    pub pushes_can : (a b : References) (from to : Tables) (xs rest more : List X) (x : X) → rest ≡ x ∷ more → PushesTo a b from to xs rest → Can b x
    pushes_can a b from to xs rest more x e d = (subst (λ ys. AllByRecursion (Can b) ys) e d.can).0

    pub pushes_few : (a b : References) (from to : Tables) (xs rest more : List X) (x : X) → rest ≡ x ∷ more → PushesTo a b from to xs rest → rows_in to table < 2 ^ 24 - 1
    pushes_few a b from to xs rest more x e d = let few = d.few in let long = ap (length {A = X}) e in omega arith

    pub pushes_room : (a b : References) (from to : Tables) (xs rest more : List X) (x : X) → rest ≡ x ∷ more → PushesTo a b from to xs rest → size b + weigh x ≤ 2 ^ 26
    pushes_room a b from to xs rest more x e d =
        let room = d.room in
        let heavy = ap (sum_by weigh) e ∙ sum_by-cons weigh x more in
        omega arith

    pub pushes_on : (a b c : References) (from via to : Tables) (xs rest more : List X) (x : X) → rest ≡ x ∷ more → PushesTo a b from via xs rest → P (x ∷ []) b c via to
        → PushesTo a c from to xs more
    pushes_on a b c from via to xs rest more x e d one =
        let heavy = ap (sum_by weigh) e ∙ sum_by-cons weigh x more in
        let alone = sum_by-cons weigh x [] in
        let long = ap (length {A = X}) e in
        let count = pushes_count (x ∷ []) b c via to one in
        record {
          on = λ later end h. d.on later end (subst (λ ys. P ys b later via end) (sym e) (pushes_both (x ∷ []) more b c later via to end one h));
          known = one.known;
          can = all_weaker (Can b) (Can c) more (λ y h. can_kept b c one.grows y h) (subst (λ ys. AllByRecursion (Can b) ys) e d.can).1;
          few = (let few = d.few in omega arith);
          room = (let room = d.room in let step = one.room in omega arith);
        }

    pub pushes_end : (a b : References) (from to : Tables) (xs rest : List X) → rest ≡ [] → PushesTo a b from to xs rest → P xs a b from to
    pushes_end a b from to xs rest e d = d.on b to (subst (λ ys. P ys b b to to) (sym e) (pushes_none b to d.known))

    -- several items at once
    pub pushes_front : (a b : References) (from to : Tables) (xs rest step more : List X) → rest ≡ step ++ more → PushesTo a b from to xs rest → AllByRecursion (Can b) step
    pushes_front a b from to xs rest step more e d = all_front (Can b) step more (subst (λ ys. AllByRecursion (Can b) ys) e d.can)

    pub pushes_front_few : (a b : References) (from to : Tables) (xs rest step more : List X) → rest ≡ step ++ more → PushesTo a b from to xs rest → rows_in to table + length step < 2 ^ 24
    pushes_front_few a b from to xs rest step more e d = let few = d.few in let long = ap (length {A = X}) e ∙ length-append step more in omega arith

    pub pushes_front_room : (a b : References) (from to : Tables) (xs rest step more : List X) → rest ≡ step ++ more → PushesTo a b from to xs rest → size b + sum_by weigh step ≤ 2 ^ 26
    pushes_front_room a b from to xs rest step more e d = let room = d.room in let heavy = ap (sum_by weigh) e ∙ sum_by-append weigh step more in omega arith

    pub pushes_step : (a b c : References) (from via to : Tables) (xs rest step more : List X) → rest ≡ step ++ more → PushesTo a b from via xs rest → P step b c via to
        → PushesTo a c from to xs more
    pushes_step a b c from via to xs rest step more e d one =
        let heavy = ap (sum_by weigh) e ∙ sum_by-append weigh step more in
        let long = ap (length {A = X}) e ∙ length-append step more in
        let count = pushes_count step b c via to one in
        record {
          on = λ later end h. d.on later end (subst (λ ys. P ys b later via end) (sym e) (pushes_both step more b c later via to end one h));
          known = one.known;
          can = all_weaker (Can b) (Can c) more (λ y h. can_kept b c one.grows y h) (all_back (Can b) step more (subst (λ ys. AllByRecursion (Can b) ys) e d.can));
          few = (let few = d.few in omega arith);
          room = (let room = d.room in let one_room = one.room in omega arith);
        }
