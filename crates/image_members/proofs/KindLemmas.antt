-- Rows of one table for items of one kind, some after others.
use Rattle.std.proofs.Common.{◌≡◌, ap, sym, ◌∙◌, subst, ℕ, ◌+◌, ◌-◌, ◌<◌, ◌≤◌, ◌^◌, List, [], ◌∷◌, ◌++◌, length, arith}
use Rattle.std.specs.Prelude.{sum_by}
use Rattle.std.specs.List.{AllByRecursion}
use Rattle.std.proofs.lemmas.List.{length-append}
use Rattle.std.proofs.lemmas.List.Sums.{sum_by-cons, sum_by-append}
use Rattle.metadata_tables.specs.Encoding.{rows_in, AddsRow}
use Rattle.image_members.specs.Pushing.{Tables, Pushes, CanPush}
use Rattle.image_tokens.specs.References.{size, Grows, AreKnown}
use Rattle.image_tokens.specs.declared.references.References.{References}
use Rattle.image_tokens.proofs.NameLemmas.{all_weaker}
use Rattle.image_members.proofs.PushLemmas.{all_front, all_back, pushes_none, pushes_one, pushes_both, pushes_count}

-- the rows of a table: when a row is that of an item, what can be written, and how many bytes come; both stay true
pub record RowKind (X : Type 0) : Type 1 where
  pub table : ℕ
  pub is : References → List ℕ → X → Type 0
  pub weigh : X → ℕ
  pub can : References → X → Type 0
  pub kept : (a b : References) → Grows a b → (cells : List ℕ) (x : X) → is a cells x → is b cells x
  pub still : (a b : References) → Grows a b → (x : X) → can a x → can b x

module _ {X : Type 0} (kind : RowKind X) where
  abbrev P : List X → References → References → Tables → Tables → Type 0
  P = Pushes kind.table kind.is kind.weigh

  abbrev Can : List X → References → Tables → Type 0
  Can = CanPush kind.table kind.can kind.weigh

  -- ---- one item

  pub one_can : (r : References) (t : Tables) (x : X) → Can (x ∷ []) r t → kind.can r x
  one_can r t x h = h.each.0

  pub one_few : (r : References) (t : Tables) (x : X) → Can (x ∷ []) r t → rows_in t kind.table < 2 ^ 24 - 1
  one_few r t x h = let few = h.few in omega arith

  pub one_room : (r : References) (t : Tables) (x : X) → Can (x ∷ []) r t → size r + kind.weigh x ≤ 2 ^ 26
  one_room r t x h = let room = h.room in let alone = sum_by-cons kind.weigh x [] in omega arith

  pub one_pushed : (a b : References) (from to : Tables) (cells : List ℕ) (x : X) → Grows a b → AreKnown b → size b ≤ size a + kind.weigh x → AddsRow from to kind.table cells
      → kind.is b cells x → P (x ∷ []) a b from to
  one_pushed a b from to cells x = pushes_one kind.table kind.is kind.weigh kind.kept a b from to cells x

  -- ---- the items before `rest` have their rows

  pub record Pushing (a b : References) (from to : Tables) (xs rest : List X) : Type 0 where
    pub on : (c : References) (end : Tables) → P rest b c to end → P xs a c from end
    pub can : Can rest b to

  pub begin : (a : References) (from : Tables) (xs : List X) → Can xs a from → Pushing a a from from xs xs
  begin a from xs can = record { on = λ c end h. h; can = can }

  pub front : (a b : References) (from to : Tables) (xs rest step more : List X) → rest ≡ step ++ more → Pushing a b from to xs rest → Can step b to
  front a b from to xs rest step more e d = record {
    known = d.can.known;
    each = all_front (kind.can b) step more (subst (λ ys. AllByRecursion (kind.can b) ys) e d.can.each);
    few = (let few = d.can.few in let long = ap (length {A = X}) e ∙ length-append step more in omega arith);
    room = (let room = d.can.room in let heavy = ap (sum_by kind.weigh) e ∙ sum_by-append kind.weigh step more in omega arith);
  }

  pub go_on : (a b c : References) (from via to : Tables) (xs rest step more : List X) → rest ≡ step ++ more → Pushing a b from via xs rest → P step b c via to → Pushing a c from to xs more
  go_on a b c from via to xs rest step more e d one =
      let heavy = ap (sum_by kind.weigh) e ∙ sum_by-append kind.weigh step more in
      let long = ap (length {A = X}) e ∙ length-append step more in
      let count = pushes_count kind.table kind.is kind.weigh kind.kept step b c via to one in
      record {
        on = λ later end h. d.on later end (subst (λ ys. P ys b later via end) (sym e) (pushes_both kind.table kind.is kind.weigh kind.kept step more b c later via to end one h));
        can = record {
          known = one.known;
          each = all_weaker (kind.can b) (kind.can c) more (λ y h. kind.still b c one.grows y h) (all_back (kind.can b) step more (subst (λ ys. AllByRecursion (kind.can b) ys) e d.can.each));
          few = (let few = d.can.few in omega arith);
          room = (let room = d.can.room in let one_room = one.room in omega arith);
        };
      }

  pub end : (a b : References) (from to : Tables) (xs rest : List X) → rest ≡ [] → Pushing a b from to xs rest → P xs a b from to
  end a b from to xs rest e d = d.on b to (subst (λ ys. P ys b b to to) (sym e) (pushes_none kind.table kind.is kind.weigh kind.kept b to d.can.known))

  -- ---- two runs of items

  pub first_can : (xs ys : List X) (r : References) (t : Tables) → Can (xs ++ ys) r t → Can xs r t
  first_can xs ys r t h = record {
    known = h.known;
    each = all_front (kind.can r) xs ys h.each;
    few = (let few = h.few in let long = length-append xs ys in omega arith);
    room = (let room = h.room in let heavy = sum_by-append kind.weigh xs ys in omega arith);
  }

  pub then_can : (xs ys : List X) (a b : References) (from to : Tables) → Can (xs ++ ys) a from → P xs a b from to → Can ys b to
  then_can xs ys a b from to h p = record {
    known = p.known;
    each = all_weaker (kind.can a) (kind.can b) ys (λ y i. kind.still a b p.grows y i) (all_back (kind.can a) xs ys h.each);
    few = (let few = h.few in let long = length-append xs ys in let count = pushes_count kind.table kind.is kind.weigh kind.kept xs a b from to p in omega arith);
    room = (let room = h.room in let heavy = sum_by-append kind.weigh xs ys in let first = p.room in omega arith);
  }

  pub both_pushed : (xs ys : List X) (a b c : References) (from via to : Tables) → P xs a b from via → P ys b c via to → P (xs ++ ys) a c from to
  both_pushed xs ys a b c from via to p q = pushes_both kind.table kind.is kind.weigh kind.kept xs ys a b c from via to p q

  pub none_pushed : (a : References) (from : Tables) → AreKnown a → P [] a a from from
  none_pushed a from known = pushes_none kind.table kind.is kind.weigh kind.kept a from known
