-- One step of a walk along stream headers.
use Rattle.std.proofs.Common.{◌≡◌, ℕ, zero, suc, ◌+◌, ◌-◌, ◌<◌, ◌≤◌, ◌*◌, ◌/◌, List, [], ◌∷◌, length, take, drop, get_or, true, false, sym, ◌∙◌, ap, refl, arith, subst}
use Rattle.std.specs.Prelude.{All, ◌↔◌}
use Rattle.pe_layout.specs.Fields.{u32_at}
use Rattle.image_model.specs.Root.{StreamHeader, header_at, behind_header, headers_from, headers_end_from}
use Rattle.image_streams.specs.Walks.{LieFrom}
use Rattle.std.proofs.lemmas.List.Elements.{All-head, All-tail, All-cons}

-- the end of some headers isn't before their beginning
pub ends_behind : (metadata : List ℕ) (place n : ℕ) → place ≤ headers_end_from metadata place n
ends_behind metadata place zero = omega arith
ends_behind metadata place (suc n) = let e = ends_behind metadata (behind_header metadata place) n in omega arith

pub pred_of : (left : ℕ) → 0 < left → suc (left - 1) ≡ left
pred_of left some = omega arith

-- one more header in front of those that lie inside
more_by_one : (metadata : List ℕ) (place n : ℕ) → LieFrom metadata (behind_header metadata place) n
    → u32_at metadata place + u32_at metadata (place + 4) ≤ length metadata → LieFrom metadata place (suc n)
more_by_one metadata place n rest within =
    record { headers = rest.headers; streams = All-cons (λ header. header.offset + header.size ≤ length metadata) (header_at metadata place) (headers_from metadata (behind_header metadata place) n) within rest.streams }

pub one_more : (metadata : List ℕ) (place left : ℕ) → 0 < left → LieFrom metadata (behind_header metadata place) (left - 1)
    → u32_at metadata place + u32_at metadata (place + 4) ≤ length metadata → LieFrom metadata place left
one_more metadata place left some rest within = subst (LieFrom metadata place) (pred_of left some) (more_by_one metadata place (left - 1) rest within)

-- the first of headers that lie inside, and those behind it
abbrev pub FirstLies : (metadata : List ℕ) (place n : ℕ) → Type 0
FirstLies metadata place n =
    (place + 8 ≤ length metadata) × ((behind_header metadata place ≤ length metadata) × ((u32_at metadata place + u32_at metadata (place + 4) ≤ length metadata)
    × LieFrom metadata (behind_header metadata place) n))

pub first_of : (metadata : List ℕ) (place n : ℕ) → LieFrom metadata place (suc n) → FirstLies metadata place n
first_of metadata place n lie =
    let e = ends_behind metadata (behind_header metadata place) n in
    let h : headers_end_from metadata (behind_header metadata place) n ≤ length metadata = lie.headers in (
      omega arith,
      (
        omega arith,
        (
          All-head (λ header. header.offset + header.size ≤ length metadata) (header_at metadata place) (headers_from metadata (behind_header metadata place) n) lie.streams,
          record { headers = h; streams = All-tail (λ header. header.offset + header.size ≤ length metadata) (header_at metadata place) (headers_from metadata (behind_header metadata place) n) lie.streams },
        ),
      ),
    )

pub first_lies : (metadata : List ℕ) (place left : ℕ) → 0 < left → LieFrom metadata place left → FirstLies metadata place (left - 1)
first_lies metadata place left some lie = first_of metadata place (left - 1) (subst (LieFrom metadata place) (sym (pred_of left some)) lie)
