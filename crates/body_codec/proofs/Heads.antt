-- Headers that are written, and what they say.
use Rattle.std.proofs.Common.{◌≡◌, ◌∙◌, ℕ, ◌<◌, ◌+◌, ◌*◌, ◌/◌, ◌%◌, ◌^◌, Bool, true, false, not, ◌||◌, nat_eq, List, [], ◌∷◌, ◌++◌, length, take, drop, ap, refl, arith, if◌then◌else◌}
use Rattle.std.proofs.lemmas.List.{take_at}
use Rattle.body_codec.specs.Header.{number_at, is_tiny, is_fat, header_size, code_size, bound_of, inits, has_sections, locals_token, code_of}
use Rattle.body_codec.specs.Written.{number_bytes}
use Rattle.body_codec.proofs.Numbers.{little_back}

-- ---- the flags of a fat header

abbrev pub flags : Bool → Bool → ℕ
flags none init = 3 + (if none then 0 else 8) + (if init then 16 else 0)

-- what the header at the front of some bytes says
pub record Says (bytes : List ℕ) (tiny : Bool) (start bound : ℕ) (init more : Bool) (locals : ℕ) (code : List ℕ) : Type 0 where
  pub known : is_tiny bytes || is_fat bytes ≡ true
  pub is : is_tiny bytes ≡ tiny
  pub starts : header_size bytes ≡ start
  pub size : code_size bytes ≡ length code
  pub bound_is : bound_of bytes ≡ bound
  pub init_is : inits bytes ≡ init
  pub more_is : has_sections bytes ≡ more
  pub locals_is : locals_token bytes ≡ locals
  pub code_is : code_of bytes ≡ code
  pub flags_are : tiny ≡ false → number_at 2 0 bytes ≡ 0x3000 + flags (not more) init

not_tiny : (none init : Bool) → nat_eq (flags none init % 4) 2 ≡ false
not_tiny true true = refl
not_tiny true false = refl
not_tiny false true = refl
not_tiny false false = refl

low_bits : (none init : Bool) → nat_eq (flags none init % 4) 3 ≡ true
low_bits true true = refl
low_bits true false = refl
low_bits false true = refl
low_bits false false = refl

init_bit : (none init : Bool) → nat_eq (flags none init / 16 % 2) 1 ≡ init
init_bit true true = refl
init_bit true false = refl
init_bit false true = refl
init_bit false false = refl

more_bit : (none init : Bool) → nat_eq (flags none init / 8 % 2) 1 ≡ not none
more_bit true true = refl
more_bit true false = refl
more_bit false true = refl
more_bit false false = refl

-- ---- the fat header

module _ (none init : Bool) (bound locals : ℕ) (code rest : List ℕ) (b : bound < 2 ^ 16) (l : locals < 2 ^ 32) (s : length code < 2 ^ 32) where
  abbrev pub fat : List ℕ
  fat =
      (((flags none init ∷ 0x30 ∷ []) ++ number_bytes 2 bound ++ number_bytes 4 (length code) ++ number_bytes 4 locals) ++ code) ++ rest

  fat_tiny : is_tiny fat ≡ false
  unfolding is_tiny number_bytes
  fat_tiny = not_tiny none init

  size_is : number_at 4 4 fat ≡ length code
  unfolding number_at number_bytes
  size_is = little_back 4 (length code) ((number_bytes 4 locals ++ code) ++ rest) s

  bound_there : number_at 2 2 fat ≡ bound
  unfolding number_at number_bytes
  bound_there = little_back 2 bound (((number_bytes 4 (length code) ++ number_bytes 4 locals) ++ code) ++ rest) b

  locals_there : number_at 4 8 fat ≡ locals
  unfolding number_at number_bytes
  locals_there = little_back 4 locals (code ++ rest) l

  fat_known : is_tiny fat || is_fat fat ≡ true
  unfolding is_tiny is_fat number_bytes
  fat_known = rw (not_tiny none init) (rw (low_bits none init) refl)

  fat_starts : header_size fat ≡ 12
  unfolding header_size
  fat_starts = rw fat_tiny refl

  fat_size : code_size fat ≡ length code
  unfolding code_size
  fat_size = rw fat_tiny size_is

  fat_bound : bound_of fat ≡ bound
  unfolding bound_of
  fat_bound = rw fat_tiny bound_there

  fat_init : inits fat ≡ init
  unfolding inits number_bytes
  fat_init = rw fat_tiny (init_bit none init)

  fat_more : has_sections fat ≡ not none
  unfolding has_sections number_bytes
  fat_more = rw fat_tiny (more_bit none init)

  fat_locals : locals_token fat ≡ locals
  unfolding locals_token
  fat_locals = rw fat_tiny locals_there

  fat_code : code_of fat ≡ code
  unfolding code_of number_bytes
  fat_code =
      ap (λ n. take n (drop (header_size fat) fat)) fat_size ∙ ap (λ n. take (length code) (drop n fat)) fat_starts ∙ take_at code rest (length code) refl

  double : (b : Bool) → not (not b) ≡ b
  double true = refl
  double false = refl

  fat_flags : number_at 2 0 fat ≡ 0x3000 + flags (not (not none)) init
  unfolding number_at number_bytes
  fat_flags = let e : flags none init + 256 * 48 ≡ 0x3000 + flags none init = omega arith in rw (double none) (omega arith)

  pub fat_says : Says fat false 12 bound init (not none) locals code
  fat_says = record {
    known = fat_known;
    is = fat_tiny;
    starts = fat_starts;
    size = fat_size;
    bound_is = fat_bound;
    init_is = fat_init;
    more_is = fat_more;
    locals_is = fat_locals;
    code_is = fat_code;
    flags_are = λ e. fat_flags;
  }

-- ---- the tiny header

module _ (code rest : List ℕ) (s : length code < 64) where
  abbrev pub small : List ℕ
  small = (((4 * length code + 2) ∷ []) ++ code) ++ rest

  small_tiny : is_tiny small ≡ true
  unfolding is_tiny
  small_tiny = let e : (4 * length code + 2) % 4 ≡ 2 = omega arith in rw e refl

  small_size : code_size small ≡ length code
  unfolding code_size
  small_size = rw small_tiny (let e : (4 * length code + 2) / 4 ≡ length code = omega arith in e)

  small_starts : header_size small ≡ 1
  unfolding header_size
  small_starts = rw small_tiny refl

  small_code : code_of small ≡ code
  unfolding code_of
  small_code =
      ap (λ n. take n (drop (header_size small) small)) small_size ∙ ap (λ n. take (length code) (drop n small)) small_starts ∙ take_at code rest (length code) refl

  small_known : is_tiny small || is_fat small ≡ true
  small_known = rw small_tiny refl

  small_bound : bound_of small ≡ 8
  unfolding bound_of
  small_bound = rw small_tiny refl

  small_init : inits small ≡ false
  unfolding inits
  small_init = rw small_tiny refl

  small_more : has_sections small ≡ false
  unfolding has_sections
  small_more = rw small_tiny refl

  small_locals : locals_token small ≡ 0
  unfolding locals_token
  small_locals = rw small_tiny refl

  pub tiny_says : Says small true 1 8 false false 0 code
  tiny_says = record {
    known = small_known;
    is = small_tiny;
    starts = small_starts;
    size = small_size;
    bound_is = small_bound;
    init_is = small_init;
    more_is = small_more;
    locals_is = small_locals;
    code_is = small_code;
    flags_are = λ e. cc;
  }
