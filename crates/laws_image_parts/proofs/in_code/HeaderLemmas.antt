-- Numbers and the header, where more bytes follow.
use Rattle.std.proofs.Common.{◌≡◌, ap, refl, sym, ◌∙◌, subst, ℕ, ◌+◌, ◌/◌, ◌%◌, ◌==◌, ◌<◌, ◌≤◌, Bool, true, false, not, cond, ◌&&◌, ◌||◌, List, ◌++◌, length, take, drop, inl, inr, arith}
use Rattle.std.specs.Prelude.{slice_index}
use Rattle.std.proofs.lemmas.Bool.{cases_Bool}
use Rattle.std.proofs.lemmas.List.{drop-append-le, take-append-le, get_or_append_left, length-append, length-drop}
use Rattle.byteorder.specs.Endian.{little_number}
use Rattle.byteorder.specs.Numbers.{little_from-append}
use Rattle.body_codec.specs.Header.{HasHeader, is_tiny, is_fat, header_size, code_size, code_end, code_of, bound_of, inits, locals_token, has_sections, number_at}

-- the same choice between the same things
pub cond_same : {X : Type 0} (b c : Bool) (x y u v : X) → c ≡ b → (b ≡ true → u ≡ x) → (b ≡ false → v ≡ y) → cond c u v ≡ cond b x y
cond_same {X} b c x y u v e f g = ap (λ (d : Bool). cond d u v) e ∙ by_test b f g
  where
    by_test : (d : Bool) → (d ≡ true → u ≡ x) → (d ≡ false → v ≡ y) → cond d u v ≡ cond d x y
    by_test true p q = p refl
    by_test false p q = q refl

module _ (bytes more : List ℕ) where
  pub byte_same : (k : ℕ) → k < length bytes → slice_index (bytes ++ more) k ≡ slice_index bytes k
  byte_same k low = get_or_append_left bytes more 0 k low

  pub number_same : (size at : ℕ) → at + size ≤ length bytes → number_at size at (bytes ++ more) ≡ number_at size at bytes
  unfolding number_at
  number_same size at room =
      let behind = length-drop at bytes in
      ap (little_number size) (drop-append-le at bytes more (omega arith)) ∙ little_from-append size (drop at bytes) more (omega arith)

  module _ (h : HasHeader bytes) where
    small_header : is_tiny bytes ≡ true → header_size bytes ≡ 1
    unfolding header_size
    small_header e = ap (λ (c : Bool). cond c 1 12) e

    large_header : is_tiny bytes ≡ false → header_size bytes ≡ 12
    unfolding header_size
    large_header e = ap (λ (c : Bool). cond c 1 12) e

    some : 1 < length bytes
    unfolding code_end
    some =
        let room = h.room in
        let code = h.some in
        elim (cases_Bool (is_tiny bytes)) [ inl e ↦ (let size = small_header e in omega arith) | inr e ↦ (let size = large_header e in omega arith) ]

    fat_room : is_tiny bytes ≡ false → 12 ≤ length bytes
    unfolding code_end
    fat_room e = let size = large_header e in let room = h.room in omega arith

    pub tiny_same : is_tiny (bytes ++ more) ≡ is_tiny bytes
    unfolding is_tiny
    tiny_same = ap (λ n. n % 4 == 2) (byte_same 0 (let low = some in omega arith))

    fat_same : is_fat (bytes ++ more) ≡ is_fat bytes
    unfolding is_fat
    fat_same =
        let first = byte_same 0 (let low = some in omega arith) in
        let second = byte_same 1 some in
        λ i. (first i % 4 == 3) && (second i / 16 == 3)

    pub header_size_same : header_size (bytes ++ more) ≡ header_size bytes
    unfolding header_size
    header_size_same = ap (λ (b : Bool). cond b 1 12) tiny_same

    pub code_size_same : code_size (bytes ++ more) ≡ code_size bytes
    unfolding code_size
    code_size_same =
        cond_same (is_tiny bytes) (is_tiny (bytes ++ more)) _ _ _ _ tiny_same (λ e. ap (λ n. n / 4) (byte_same 0 (let low = some in omega arith)))
        (λ e. let room = fat_room e in number_same 4 4 (omega arith))

    pub bound_same : bound_of (bytes ++ more) ≡ bound_of bytes
    unfolding bound_of
    bound_same = cond_same (is_tiny bytes) (is_tiny (bytes ++ more)) _ _ _ _ tiny_same (λ e. refl) (λ e. let room = fat_room e in number_same 2 2 (omega arith))

    pub locals_same : locals_token (bytes ++ more) ≡ locals_token bytes
    unfolding locals_token
    locals_same = cond_same (is_tiny bytes) (is_tiny (bytes ++ more)) _ _ _ _ tiny_same (λ e. refl) (λ e. let room = fat_room e in number_same 4 8 (omega arith))

    pub inits_same : inits (bytes ++ more) ≡ inits bytes
    unfolding inits
    inits_same =
        let tiny = tiny_same in
        let first = byte_same 0 (let low = some in omega arith) in
        λ i. not (tiny i) && (first i / 16 % 2 == 1)

    pub has_sections_same : has_sections (bytes ++ more) ≡ has_sections bytes
    unfolding has_sections
    has_sections_same =
        let tiny = tiny_same in
        let first = byte_same 0 (let low = some in omega arith) in
        λ i. not (tiny i) && (first i / 8 % 2 == 1)

    pub code_end_same : code_end (bytes ++ more) ≡ code_end bytes
    unfolding code_end
    code_end_same =
        let front = header_size_same in
        let size = code_size_same in
        λ i. front i + size i

    pub code_same : code_of (bytes ++ more) ≡ code_of bytes
    unfolding code_of code_end
    code_same =
        let front = header_size_same in
        let size = code_size_same in
        let room = h.room in
        let behind = length-drop (header_size bytes) bytes in
        let dropped : drop (header_size (bytes ++ more)) (bytes ++ more) ≡ drop (header_size bytes) bytes ++ more =
        ap (λ n. drop n (bytes ++ more)) front ∙ drop-append-le (header_size bytes) bytes more (omega arith) in
        (λ i. take (size i) (dropped i)) ∙ take-append-le (code_size bytes) (drop (header_size bytes) bytes) more (omega arith)

    pub header_same : HasHeader (bytes ++ more)
    header_same =
        let tiny = tiny_same in
        let fat = fat_same in
        let known : is_tiny (bytes ++ more) || is_fat (bytes ++ more) ≡ is_tiny bytes || is_fat bytes = (λ i. tiny i || fat i) in
        let room = h.room in
        let ends = code_end_same in
        let long = length-append bytes more in
        record { known = known ∙ h.known; some = subst (λ n. 0 < n) (sym code_size_same) h.some; room = omega arith }
