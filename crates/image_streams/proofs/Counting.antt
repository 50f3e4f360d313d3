-- Counting the headers with a name along a walk, and finding the first of them.
use Rattle.std.proofs.Common.{◌≡◌, ℕ, zero, suc, ◌+◌, ◌-◌, ◌<◌, ◌≤◌, List, [], ◌∷◌, length, take, drop, true, false, sym, ◌∙◌, ap, refl, arith, subst, Bool, cond}
use Rattle.std.specs.Prelude.{Some, None}
use Rattle.std.specs.Str.{bytes_eq}
use Rattle.std.proofs.lemmas.List.Sums.{sum_by-cons}
use Rattle.pe_layout.specs.Fields.{u32_at}
use Rattle.image_model.specs.Root.{StreamHeader, header_at, name_at, behind_header, headers_from, headers_of, header_of, flags_place, stream_count}
use Rattle.image_model.specs.Streams.{stream_of, streams_named}
use Rattle.image_streams.specs.Walks.{LieFrom, LieInside, named, first_named, bytes_of}
use Rattle.image_streams.proofs.Steps.{pred_of, first_lies, first_of, FirstLies}

-- how many of the headers so far have the name, and the stream of the first of them
pub record AreCounted (metadata name : List ℕ) (place left count : ℕ) (first : List ℕ) : Type 0 where
  pub lie : LieFrom metadata place left
  pub few : count + left < 65536
  pub total : count + named name (headers_from metadata place left) ≡ streams_named metadata name
  pub none : count ≡ 0 → first_named name (headers_from metadata place left) ≡ header_of metadata name
  pub empty : count ≡ 0 → first ≡ []
  pub some : 0 < count → first ≡ stream_of metadata name

stream_is : (metadata name : List ℕ) → bytes_of metadata (header_of metadata name) ≡ stream_of metadata name
unfolding stream_of
stream_is metadata name = refl

all_headers : (metadata : List ℕ) → headers_from metadata (flags_place metadata + 4) (stream_count metadata) ≡ headers_of metadata
unfolding headers_of
all_headers metadata = refl

first_of_all : (metadata name : List ℕ) → first_named name (headers_of metadata) ≡ header_of metadata name
unfolding header_of
first_of_all metadata name = refl

pub begun : (metadata name : List ℕ) → LieInside metadata → stream_count metadata < 65536
    → AreCounted metadata name (flags_place metadata + 4) (stream_count metadata) 0 []
begun metadata name lie few =
    record {
      lie = lie;
      few = omega arith;
      total = let t : 0 + named name (headers_from metadata (flags_place metadata + 4) (stream_count metadata)) ≡ named name (headers_from metadata (flags_place metadata + 4) (stream_count metadata)) = omega arith in t ∙ ap (named name) (all_headers metadata);
      none = λ e. ap (first_named name) (all_headers metadata) ∙ first_of_all metadata name;
      empty = λ e. refl;
      some = λ s. absurd (omega arith);
    }

pub ended : (metadata name : List ℕ) (place count : ℕ) (first : List ℕ) → AreCounted metadata name place 0 count first
    → (count ≡ streams_named metadata name) × (first ≡ stream_of metadata name)
ended metadata name place zero first i =
    (i.total, i.empty refl ∙ ap (bytes_of metadata) (i.none refl) ∙ stream_is metadata name)
ended metadata name place (suc count) first i = (let t = i.total in omega arith, i.some (omega arith))

module _ (metadata name : List ℕ) (place n count : ℕ) (first : List ℕ) (i : AreCounted metadata name place (suc n) count first) where
  abbrev rest : List StreamHeader
  rest = headers_from metadata (behind_header metadata place) n

  lies : LieFrom metadata (behind_header metadata place) n
  lies = (first_of metadata place n i.lie).1.1.1

  counts : named name (headers_from metadata place (suc n)) ≡ cond (bytes_eq (name_at metadata (place + 8)) name) 1 0 + named name rest
  counts = sum_by-cons (λ header. cond (bytes_eq header.name name) 1 0) (header_at metadata place) rest

  finds : (b : Bool) → bytes_eq (name_at metadata (place + 8)) name ≡ b
      → first_named name (headers_from metadata place (suc n)) ≡ cond b (Some (header_at metadata place)) (first_named name rest)
  finds b e = ap (λ b. cond b (Some (header_at metadata place)) (first_named name rest)) e

  -- a header with another name
  passed_over : bytes_eq (name_at metadata (place + 8)) name ≡ false → AreCounted metadata name (behind_header metadata place) n count first
  passed_over e =
      let c : named name (headers_from metadata place (suc n)) ≡ named name rest = counts ∙ ap (λ b. cond b 1 0 + named name rest) e ∙ (omega arith) in
      record {
        lie = lies;
        few = let f = i.few in omega arith;
        total = ap (λ k. count + k) (sym c) ∙ i.total;
        none = λ z. sym (finds false e) ∙ i.none z;
        empty = i.empty;
        some = i.some;
      }

  one_named : bytes_eq (name_at metadata (place + 8)) name ≡ true → named name (headers_from metadata place (suc n)) ≡ 1 + named name rest
  one_named e = counts ∙ ap (λ b. cond b 1 0 + named name rest) e

  -- a further header with the name
  further : bytes_eq (name_at metadata (place + 8)) name ≡ true → 0 < count → AreCounted metadata name (behind_header metadata place) n (count + 1) first
  further e s =
      let c = one_named e in
      record {
        lie = lies;
        few = let f = i.few in omega arith;
        total = let t = i.total in omega arith;
        none = λ z. absurd (omega arith);
        empty = λ z. absurd (omega arith);
        some = λ t. i.some s;
      }

  -- the first header with the name
  the_first : bytes_eq (name_at metadata (place + 8)) name ≡ true → count ≡ 0
      → AreCounted metadata name (behind_header metadata place) n (count + 1) (take (u32_at metadata (place + 4)) (drop (u32_at metadata place) metadata))
  the_first e z =
      let c = one_named e in
      record {
        lie = lies;
        few = let f = i.few in omega arith;
        total = let t = i.total in omega arith;
        none = λ y. absurd (omega arith);
        empty = λ y. absurd (omega arith);
        some = λ t. ap (bytes_of metadata) (sym (finds true e) ∙ i.none z) ∙ stream_is metadata name;
      }

module _ (metadata name : List ℕ) (place left count : ℕ) (first : List ℕ) (less : 0 < left) (i : AreCounted metadata name place left count first) where
  there : AreCounted metadata name place (suc (left - 1)) count first
  there = subst (λ k. AreCounted metadata name place k count first) (sym (pred_of left less)) i

  pub next_passed_over : bytes_eq (name_at metadata (place + 8)) name ≡ false → AreCounted metadata name (behind_header metadata place) (left - 1) count first
  next_passed_over e = passed_over metadata name place (left - 1) count first there e

  pub next_further : bytes_eq (name_at metadata (place + 8)) name ≡ true → 0 < count
      → AreCounted metadata name (behind_header metadata place) (left - 1) (count + 1) first
  next_further e s = further metadata name place (left - 1) count first there e s

  pub next_first : bytes_eq (name_at metadata (place + 8)) name ≡ true → count ≡ 0
      → AreCounted metadata name (behind_header metadata place) (left - 1) (count + 1) (take (u32_at metadata (place + 4)) (drop (u32_at metadata place) metadata))
  next_first e z = the_first metadata name place (left - 1) count first there e z

  pub next_lies : FirstLies metadata place (left - 1)
  next_lies = first_lies metadata place left less i.lie
