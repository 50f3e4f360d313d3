-- The metadata that is written has its root and its five streams.
use Rattle.std.proofs.Common.{◌≡◌, ℕ, ◌+◌, ◌-◌, ◌*◌, ◌/◌, ◌%◌, ◌^◌, ◌<◌, ◌≤◌, List, [], ◌∷◌, ◌++◌, All, Some, length, map, take, drop, sym, ◌∙◌, ap, subst, refl, arith, append_assoc}
use Rattle.std.proofs.lemmas.List.Elements.{All-from_recursion}
use Rattle.std.specs.Prelude.{codes}
use Rattle.std.specs.List.{find}
use Rattle.std.specs.Str.{bytes_eq}
use Rattle.std.proofs.lemmas.List.{length-append, length-replicate}
use Rattle.std.proofs.Math.Seq.{drop-append_seam, take-append_seam}
use Rattle.byteorder.specs.Endian.{little_number, little_bytes}
use Rattle.byteorder.specs.Numbers.{little_number-reads_back}
use Rattle.pe_layout.specs.Fields.{u16_at, u32_at, round_up}
use Rattle.image_model.specs.Root.{StreamHeader, IsRoot, HasStream, headers_of, headers_end, header_of, filled}
use Rattle.image_model.specs.Written.{root_of, metadata_of, total_of, HoldsStreams, HasWrittenRoot}
use Rattle.image_model.specs.declared.metadata.Streams.{Streams}

pub length-filled : (xs : List ℕ) → (length xs + 3) / 4 * 4 ≡ length (filled xs)
unfolding filled round_up
length-filled xs = rw (length-append, length-replicate) (omega arith)

pub length-filled-le : (xs : List ℕ) → length (filled xs) ≤ length xs + 3
length-filled-le xs = let e = length-filled xs in omega arith

-- ---- the headers

header : ℕ → ℕ → List ℕ → StreamHeader
header offset size name = record { offset = offset; size = size; name = name }

five : (o1 s1 o2 s2 o3 s3 o4 s4 o5 s5 : ℕ) → List StreamHeader
five o1 s1 o2 s2 o3 s3 o4 s4 o5 s5 =
    header o1 s1 (codes "#~") ∷ header o2 s2 (codes "#Strings") ∷ header o3 s3 (codes "#US") ∷ header o4 s4 (codes "#GUID") ∷ header o5 s5 (codes "#Blob") ∷ []

-- the number in the bytes of a number
read : ℕ → ℕ
read n = little_number 4 (little_bytes 4 n)

read_is : (n : ℕ) → n < 2 ^ 32 → read n ≡ n
unfolding read
read_is n h = little_number-reads_back 4 n [] h

headers_read : (a b c d e rest : _) → headers_of (root_of a b c d e ++ rest)
    ≡ five (read 108) (read a) (read (108 + a)) (read b) (read (108 + a + b)) (read c) (read (108 + a + b + c)) (read d) (read (108 + a + b + c + d)) (read e)
unfolding headers_of u32_at u16_at round_up five header read
headers_read a b c d e rest = refl

-- ---- the bytes, piece by piece

pub six_pieces : (o f h1 h2 h3 h4 h5 r0 r1 r2 r3 r4 r5 : List ℕ) → r0 ≡ o ++ f → r1 ≡ r0 ++ h1 → r2 ≡ r1 ++ h2 → r3 ≡ r2 ++ h3 → r4 ≡ r3 ++ h4 → r5 ≡ r4 ++ h5
    → r5 ≡ o ++ (f ++ (h1 ++ (h2 ++ (h3 ++ (h4 ++ h5)))))
six_pieces o f h1 h2 h3 h4 h5 r0 r1 r2 r3 r4 r5 e0 e1 e2 e3 e4 e5 = rw (e5, e4, e3, e2, e1, e0) (simp append_assoc)

pub root_of-same : (t s u g b t' s' u' g' b' : ℕ) (out : List ℕ) → t ≡ t' → s ≡ s' → u ≡ u' → g ≡ g' → b ≡ b'
    → out ++ root_of t s u g b ≡ out ++ root_of t' s' u' g' b'
root_of-same t s u g b t' s' u' g' b' out et es eu eg eb =
    ap (λ n. out ++ root_of n s u g b) et ∙ ap (λ n. out ++ root_of t' n u g b) es ∙ ap (λ n. out ++ root_of t' s' n g b) eu
    ∙ ap (λ n. out ++ root_of t' s' u' n b) eg ∙ ap (λ n. out ++ root_of t' s' u' g' n) eb

-- ---- the streams

module _ (a b c d e : List ℕ) (small : length a + length b + length c + length d + length e < 2 ^ 27) where
  sizes_root : List ℕ
  sizes_root = root_of (length a) (length b) (length c) (length d) (length e)

  all_bytes : List ℕ
  all_bytes = sizes_root ++ (a ++ (b ++ (c ++ (d ++ e))))

  length-sizes_root : length sizes_root ≡ 108
  unfolding sizes_root
  length-sizes_root = refl

  length-all : length all_bytes ≡ 108 + (length a + (length b + (length c + (length d + length e))))
  unfolding all_bytes
  length-all = length-append sizes_root _ ∙ ap (λ n. n + length (a ++ (b ++ (c ++ (d ++ e))))) length-sizes_root
      ∙ rw (length-append, length-append, length-append, length-append) refl

  headers_are : headers_of all_bytes
      ≡ five 108 (length a) (108 + length a) (length b) (108 + length a + length b) (length c) (108 + length a + length b + length c) (length d)
      (108 + length a + length b + length c + length d) (length e)
  unfolding all_bytes sizes_root
  headers_are =
      let e1 : read 108 ≡ 108 = read_is 108 (omega arith) in
      let e2 : read (length a) ≡ length a = read_is (length a) (omega arith) in
      let e3 : read (108 + length a) ≡ 108 + length a = read_is (108 + length a) (omega arith) in
      let e4 : read (length b) ≡ length b = read_is (length b) (omega arith) in
      let e5 : read (108 + length a + length b) ≡ 108 + length a + length b = read_is (108 + length a + length b) (omega arith) in
      let e6 : read (length c) ≡ length c = read_is (length c) (omega arith) in
      let e7 : read (108 + length a + length b + length c) ≡ 108 + length a + length b + length c = read_is (108 + length a + length b + length c) (omega arith) in
      let e8 : read (length d) ≡ length d = read_is (length d) (omega arith) in
      let e9 : read (108 + length a + length b + length c + length d) ≡ 108 + length a + length b + length c + length d = read_is (108 + length a + length b + length c + length d) (omega arith) in
      let e10 : read (length e) ≡ length e = read_is (length e) (omega arith) in
      let all = headers_read (length a) (length b) (length c) (length d) (length e) (a ++ (b ++ (c ++ (d ++ e)))) in
      all ∙ cc

  is_root : IsRoot all_bytes
  unfolding all_bytes sizes_root headers_end u32_at u16_at round_up
  is_root = record {
    signature = refl;
    major = refl;
    minor = refl;
    reserved = refl;
    flags = refl;
    inside = let len = length-all in omega arith;
  }

  -- a piece that stands behind a front
  piece_at : (front x back : List ℕ) (n : ℕ) → n ≡ length front → take (length x) (drop n (front ++ (x ++ back))) ≡ x
  piece_at front x back n is = rw (is, drop-append_seam front (x ++ back)) (take-append_seam x back)

  stream : (name : List ℕ) (offset size : ℕ) (bytes : List ℕ) → header_of all_bytes name ≡ Some (header offset size name)
      → offset + size ≤ length all_bytes → take size (drop offset all_bytes) ≡ bytes → HasStream all_bytes name bytes
  unfolding header
  stream name offset size bytes found inside is = record { header = header offset size name; found = found; inside = inside; bytes_are = is }

  named : (name : List ℕ) → header_of all_bytes name ≡ find (λ h. bytes_eq h.name name) (five 108 (length a) (108 + length a) (length b) (108 + length a + length b) (length c) (108 + length a + length b + length c) (length d)
      (108 + length a + length b + length c + length d) (length e))
  unfolding header_of
  named name = ap (find (λ h. bytes_eq h.name name)) headers_are

  has_tables : HasStream all_bytes (codes "#~") a
  unfolding all_bytes five header
  has_tables = stream (codes "#~") 108 (length a) a (named (codes "#~")) (let len = length-all in omega arith)
      (piece_at sizes_root a (b ++ (c ++ (d ++ e))) 108 (sym length-sizes_root))

  has_strings : HasStream all_bytes (codes "#Strings") b
  unfolding all_bytes five header
  has_strings = stream (codes "#Strings") (108 + length a) (length b) b (named (codes "#Strings")) (let len = length-all in omega arith)
      (ap (λ xs. take (length b) (drop (108 + length a) xs)) (sym (append_assoc sizes_root a (b ++ (c ++ (d ++ e)))))
      ∙ piece_at (sizes_root ++ a) b (c ++ (d ++ e)) (108 + length a) (let len = length-sizes_root in rw length-append (omega arith)))

  has_user : HasStream all_bytes (codes "#US") c
  unfolding all_bytes five header
  has_user = stream (codes "#US") (108 + length a + length b) (length c) c (named (codes "#US")) (let len = length-all in omega arith)
      (ap (λ xs. take (length c) (drop (108 + length a + length b) xs))
      (sym (append_assoc sizes_root a (b ++ (c ++ (d ++ e)))) ∙ sym (append_assoc (sizes_root ++ a) b (c ++ (d ++ e))))
      ∙ piece_at ((sizes_root ++ a) ++ b) c (d ++ e) (108 + length a + length b) (let len = length-sizes_root in rw (length-append, length-append) (omega arith)))

  has_guids : HasStream all_bytes (codes "#GUID") d
  unfolding all_bytes five header
  has_guids = stream (codes "#GUID") (108 + length a + length b + length c) (length d) d (named (codes "#GUID")) (let len = length-all in omega arith)
      (ap (λ xs. take (length d) (drop (108 + length a + length b + length c) xs))
      (sym (append_assoc sizes_root a (b ++ (c ++ (d ++ e)))) ∙ sym (append_assoc (sizes_root ++ a) b (c ++ (d ++ e))) ∙ sym (append_assoc ((sizes_root ++ a) ++ b) c (d ++ e)))
      ∙ piece_at (((sizes_root ++ a) ++ b) ++ c) d e (108 + length a + length b + length c) (let len = length-sizes_root in rw (length-append, length-append, length-append) (omega arith)))

  last_piece : (front x : List ℕ) (n : ℕ) → n ≡ length front → take (length x) (drop n (front ++ x)) ≡ x
  last_piece front x n is = rw (is, drop-append_seam front x) (take_whole x)
    where
      take_whole : (ys : List ℕ) → take (length ys) ys ≡ ys
      take_whole [] = refl
      take_whole (y ∷ ys) = ap (λ zs. y ∷ zs) (take_whole ys)

  has_blobs : HasStream all_bytes (codes "#Blob") e
  unfolding all_bytes five header
  has_blobs = stream (codes "#Blob") (108 + length a + length b + length c + length d) (length e) e (named (codes "#Blob")) (let len = length-all in omega arith)
      (ap (λ xs. take (length e) (drop (108 + length a + length b + length c + length d) xs))
      (sym (append_assoc sizes_root a (b ++ (c ++ (d ++ e)))) ∙ sym (append_assoc (sizes_root ++ a) b (c ++ (d ++ e))) ∙ sym (append_assoc ((sizes_root ++ a) ++ b) c (d ++ e))
      ∙ sym (append_assoc (((sizes_root ++ a) ++ b) ++ c) d e))
      ∙ last_piece ((((sizes_root ++ a) ++ b) ++ c) ++ d) e (108 + length a + length b + length c + length d)
      (let len = length-sizes_root in rw (length-append, length-append, length-append, length-append) (omega arith)))

abbrev IsAligned : StreamHeader → Type 0
IsAligned h = (h.offset % 4 ≡ 0) × (h.size % 4 ≡ 0)

aligned_five : (o1 s1 o2 s2 o3 s3 o4 s4 o5 s5 : ℕ) → (o1 % 4 ≡ 0) × (s1 % 4 ≡ 0) → (o2 % 4 ≡ 0) × (s2 % 4 ≡ 0) → (o3 % 4 ≡ 0) × (s3 % 4 ≡ 0) → (o4 % 4 ≡ 0) × (s4 % 4 ≡ 0) → (o5 % 4 ≡ 0) × (s5 % 4 ≡ 0)
    → All IsAligned (five o1 s1 o2 s2 o3 s3 o4 s4 o5 s5)
unfolding five header
aligned_five o1 s1 o2 s2 o3 s3 o4 s4 o5 s5 h1 h2 h3 h4 h5 = All-from_recursion IsAligned (five o1 s1 o2 s2 o3 s3 o4 s4 o5 s5) (h1, (h2, (h3, (h4, (h5, tt)))))

-- the root's header fields, where each stream is filled up
written_root : (a b c d e : List ℕ) (small : length a + length b + length c + length d + length e < 2 ^ 27) → length a % 4 ≡ 0 → length b % 4 ≡ 0 → length c % 4 ≡ 0 → length d % 4 ≡ 0 → length e % 4 ≡ 0
    → HasWrittenRoot (all_bytes a b c d e small)
unfolding all_bytes sizes_root u32_at u16_at round_up five header
written_root a b c d e small la lb lc ld le =
    let all = headers_are a b c d e small in
    record {
      signature = refl;
      major = refl;
      minor = refl;
      reserved = refl;
      version_length = refl;
      version = refl;
      flags = refl;
      names = ap (map (λ (h : StreamHeader). h.name)) all;
      aligned = subst (All IsAligned) (sym all) (aligned_five 108 (length a) (108 + length a) (length b) (108 + length a + length b) (length c) (108 + length a + length b + length c) (length d)
          (108 + length a + length b + length c + length d) (length e) (omega arith, la) (omega arith, lb) (omega arith, lc) (omega arith, ld) (omega arith, le));
    }

filled_whole : (xs : List ℕ) → length (filled xs) % 4 ≡ 0
filled_whole xs = let e = length-filled xs in omega arith

pub metadata_written : (s : Streams) → total_of s < 2 ^ 26 → HasWrittenRoot (metadata_of s)
unfolding metadata_of all_bytes sizes_root
metadata_written s small =
    let a = filled s.tables.now in
    let b = filled s.strings.now in
    let c = filled s.user.now in
    let d = filled s.guids.now in
    let e = filled s.blobs.now in
    let la = length-filled-le s.tables.now in
    let lb = length-filled-le s.strings.now in
    let lc = length-filled-le s.user.now in
    let ld = length-filled-le s.guids.now in
    let le = length-filled-le s.blobs.now in
    let fits : length a + length b + length c + length d + length e < 2 ^ 27 = omega arith in
    written_root a b c d e fits (filled_whole s.tables.now) (filled_whole s.strings.now) (filled_whole s.user.now) (filled_whole s.guids.now) (filled_whole s.blobs.now)

pub metadata_holds : (s : Streams) → total_of s < 2 ^ 26 → HoldsStreams s (metadata_of s)
unfolding metadata_of all_bytes sizes_root
metadata_holds s small =
    let a = filled s.tables.now in
    let b = filled s.strings.now in
    let c = filled s.user.now in
    let d = filled s.guids.now in
    let e = filled s.blobs.now in
    let la = length-filled-le s.tables.now in
    let lb = length-filled-le s.strings.now in
    let lc = length-filled-le s.user.now in
    let ld = length-filled-le s.guids.now in
    let le = length-filled-le s.blobs.now in
    let fits : length a + length b + length c + length d + length e < 2 ^ 27 = omega arith in
    record {
      root = is_root a b c d e fits;
      tables = has_tables a b c d e fits;
      strings = has_strings a b c d e fits;
      user = has_user a b c d e fits;
      guids = has_guids a b c d e fits;
      blobs = has_blobs a b c d e fits;
    }

pub length-metadata : (s : Streams) → total_of s < 2 ^ 26 → length (metadata_of s) ≤ total_of s + 123
unfolding metadata_of all_bytes sizes_root
length-metadata s small =
    let a = filled s.tables.now in
    let b = filled s.strings.now in
    let c = filled s.user.now in
    let d = filled s.guids.now in
    let e = filled s.blobs.now in
    let la = length-filled-le s.tables.now in
    let lb = length-filled-le s.strings.now in
    let lc = length-filled-le s.user.now in
    let ld = length-filled-le s.guids.now in
    let le = length-filled-le s.blobs.now in
    let fits : length a + length b + length c + length d + length e < 2 ^ 27 = omega arith in
    let len = length-all a b c d e fits in
    omega arith
