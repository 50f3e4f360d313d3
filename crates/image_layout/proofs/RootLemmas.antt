-- The root and the streams of an image whose metadata has been put together.
use Rattle.std.proofs.Common.{◌≡◌, ℕ, ◌+◌, ◌-◌, ◌*◌, ◌/◌, ◌≤◌, cond, List, [], ◌∷◌, ◌++◌, All, Option, Some, length, map, take, drop, replicate, sym, ◌∙◌, ap, refl, subst, arith}
use Rattle.std.specs.Prelude.{codes, count_by}
use Rattle.std.specs.List.{find}
use Rattle.std.specs.Option.{option_map_or}
use Rattle.std.specs.Str.{bytes_eq}
use Rattle.std.proofs.lemmas.List.{append-nil}
use Rattle.std.proofs.lemmas.List.Elements.{All-from_recursion}
use Rattle.std.proofs.lemmas.List.Sums.{sum_by-cons}
use Rattle.std.proofs.lemmas.Option.{same_Some}
use Rattle.heaps.specs.Content.{HasGuid}
use Rattle.image_model.specs.Root.{StreamHeader, HasStream, header_of, headers_of, filled}
use Rattle.image_model.specs.Streams.{stream_of, streams_named, guids_of, HasRoot}
use Rattle.image_model.specs.Written.{stream_names}
use Rattle.pe_layout.specs.CliHeader.{metadata_of, metadata_size_of}
use Rattle.pe_layout.specs.Fields.{round_up}
use Rattle.image_layout.specs.LaidOut.{HoldsMetadata, HoldsParts}
use Rattle.image_tokens.specs.declared.references.References.{References}
use Rattle.image_members.specs.Pushing.{Tables}

-- ---- the stream with a name

pub stream_is : (metadata name bytes : List ℕ) → HasStream metadata name bytes → stream_of metadata name ≡ bytes
unfolding stream_of
stream_is metadata name bytes s =
    ap (λ (o : Option StreamHeader). option_map_or (λ (h : StreamHeader). take h.size (drop h.offset metadata)) o []) s.found ∙ s.bytes_are

-- ---- the headers are five

abbrev name_of : StreamHeader → List ℕ
name_of h = h.name

record Five (headers : List StreamHeader) : Type 0 where
  a : StreamHeader
  b : StreamHeader
  c : StreamHeader
  d : StreamHeader
  e : StreamHeader
  are : headers ≡ a ∷ b ∷ c ∷ d ∷ e ∷ []
  a_is : a.name ≡ codes "#~"
  b_is : b.name ≡ codes "#Strings"
  c_is : c.name ≡ codes "#US"
  d_is : d.name ≡ codes "#GUID"
  e_is : e.name ≡ codes "#Blob"

same_heads : (x y : List ℕ) (xs ys : List (List ℕ)) → x ∷ xs ≡ y ∷ ys → (x ≡ y) × (xs ≡ ys)
same_heads x y xs ys e = (cc, cc)

no_heads : (y : List ℕ) (ys : List (List ℕ)) → [] ≡ y ∷ ys → ⊥
no_heads y ys e = absurd cc

no_rest : (x : List ℕ) (xs : List (List ℕ)) → x ∷ xs ≡ [] → ⊥
no_rest x xs e = absurd cc

five : (headers : List StreamHeader) → map name_of headers ≡ stream_names → Five headers
five [] e = absurd (no_heads _ _ e)
five (a ∷ []) e = absurd (no_heads _ _ (same_heads _ _ _ _ e).1)
five (a ∷ b ∷ []) e = absurd (no_heads _ _ (same_heads _ _ _ _ (same_heads _ _ _ _ e).1).1)
five (a ∷ b ∷ c ∷ []) e = absurd (no_heads _ _ (same_heads _ _ _ _ (same_heads _ _ _ _ (same_heads _ _ _ _ e).1).1).1)
five (a ∷ b ∷ c ∷ d ∷ []) e = absurd (no_heads _ _ (same_heads _ _ _ _ (same_heads _ _ _ _ (same_heads _ _ _ _ (same_heads _ _ _ _ e).1).1).1).1)
five (a ∷ b ∷ c ∷ d ∷ x ∷ []) e =
    let e1 = same_heads a.name (codes "#~") (map name_of (b ∷ c ∷ d ∷ x ∷ [])) (codes "#Strings" ∷ codes "#US" ∷ codes "#GUID" ∷ codes "#Blob" ∷ []) e in
    let e2 = same_heads b.name (codes "#Strings") (map name_of (c ∷ d ∷ x ∷ [])) (codes "#US" ∷ codes "#GUID" ∷ codes "#Blob" ∷ []) e1.1 in
    let e3 = same_heads c.name (codes "#US") (map name_of (d ∷ x ∷ [])) (codes "#GUID" ∷ codes "#Blob" ∷ []) e2.1 in
    let e4 = same_heads d.name (codes "#GUID") (map name_of (x ∷ [])) (codes "#Blob" ∷ []) e3.1 in
    let e5 = same_heads x.name (codes "#Blob") [] [] e4.1 in
    record { a = a; b = b; c = c; d = d; e = x; are = refl; a_is = e1.0; b_is = e2.0; c_is = e3.0; d_is = e4.0; e_is = e5.0 }
five (a ∷ b ∷ c ∷ d ∷ x ∷ f ∷ fs) e =
    absurd (no_rest _ _ (same_heads _ _ _ _ (same_heads _ _ _ _ (same_heads _ _ _ _ (same_heads _ _ _ _ (same_heads _ _ _ _ e).1).1).1).1).1)

-- the first header with a name
abbrev first : List StreamHeader → List ℕ → Option StreamHeader
first headers name = find (λ (h : StreamHeader). bytes_eq h.name name) headers

module _ (headers : List StreamHeader) (f : Five headers) where
  first_a : first headers (codes "#~") ≡ Some f.a
  first_a = ap (λ hs. first hs (codes "#~")) f.are ∙ rw f.a_is refl

  first_b : first headers (codes "#Strings") ≡ Some f.b
  first_b = ap (λ hs. first hs (codes "#Strings")) f.are ∙ rw (f.a_is, f.b_is) refl

  first_c : first headers (codes "#US") ≡ Some f.c
  first_c = ap (λ hs. first hs (codes "#US")) f.are ∙ rw (f.a_is, f.b_is, f.c_is) refl

  first_d : first headers (codes "#GUID") ≡ Some f.d
  first_d = ap (λ hs. first hs (codes "#GUID")) f.are ∙ rw (f.a_is, f.b_is, f.c_is, f.d_is) refl

  first_e : first headers (codes "#Blob") ≡ Some f.e
  first_e = ap (λ hs. first hs (codes "#Blob")) f.are ∙ rw (f.a_is, f.b_is, f.c_is, f.d_is, f.e_is) refl

-- each of them lies in the metadata
abbrev Lies : List ℕ → StreamHeader → Type 0
Lies metadata h = h.offset + h.size ≤ length metadata

lies : (metadata name bytes : List ℕ) (h : StreamHeader) → first (headers_of metadata) name ≡ Some h → HasStream metadata name bytes → Lies metadata h
unfolding header_of
lies metadata name bytes h found s =
    let same : h ≡ s.header = same_Some h s.header (sym found ∙ s.found) in
    subst (Lies metadata) (sym same) s.inside

-- how many headers have a name
count_names : (name : List ℕ) (headers : List StreamHeader) → count_by (λ (h : StreamHeader). bytes_eq h.name name) headers ≡ count_by (λ n. bytes_eq n name) (map name_of headers)
count_names name [] = refl
count_names name (h ∷ hs) =
    sum_by-cons (λ (g : StreamHeader). cond (bytes_eq g.name name) 1 0) h hs ∙ ap (λ n. cond (bytes_eq h.name name) 1 0 + n) (count_names name hs)
    ∙ sym (sum_by-cons (λ n. cond (bytes_eq n name) 1 0) h.name (map name_of hs))

module _ (r : References) (tables : Tables) (id metadata : List ℕ) (p : HoldsParts r tables id metadata) where
  all_lie : All (Lies metadata) (headers_of metadata)
  all_lie =
      let f = five (headers_of metadata) p.written.names in
      subst (All (Lies metadata)) (sym f.are)
      (All-from_recursion (Lies metadata) (f.a ∷ f.b ∷ f.c ∷ f.d ∷ f.e ∷ []) (
        lies metadata (codes "#~") (filled p.stream) f.a (first_a (headers_of metadata) f) p.has_tables,
        (
          lies metadata (codes "#Strings") (filled r.heaps.strings.bytes) f.b (first_b (headers_of metadata) f) p.has_strings,
          (
            lies metadata (codes "#US") (filled r.heaps.user.bytes) f.c (first_c (headers_of metadata) f) p.has_user,
            (
              lies metadata (codes "#GUID") (filled id) f.d (first_d (headers_of metadata) f) p.has_guids,
              (lies metadata (codes "#Blob") (filled r.heaps.blobs.bytes) f.e (first_e (headers_of metadata) f) p.has_blobs, tt),
            ),
          ),
        ),
      ))

  named : (name : List ℕ) → streams_named metadata name ≡ count_by (λ n. bytes_eq n name) stream_names
  named name = count_names name (headers_of metadata) ∙ ap (count_by (λ n. bytes_eq n name)) p.written.names

  module _ (image : List ℕ) (bytes : metadata_of image ≡ metadata) (size : metadata_size_of image ≡ length metadata) where
    has_root : HasRoot image
    has_root = record {
      there = ap length bytes ∙ sym size;
      signature = rw bytes p.root.signature;
      headers = rw bytes p.root.inside;
      inside = rw bytes all_lie;
      tables = rw bytes (named (codes "#~"));
      no_others = rw bytes (named (codes "#-"));
      strings = rw bytes (let e = named (codes "#Strings") in omega arith);
      user = rw bytes (let e = named (codes "#US") in omega arith);
      guids = rw bytes (let e = named (codes "#GUID") in omega arith);
      blobs = rw bytes (let e = named (codes "#Blob") in omega arith);
    }

    reads : (name stream : List ℕ) → HasStream metadata name stream → stream_of (metadata_of image) name ≡ stream
    reads name stream s = ap (λ m. stream_of m name) bytes ∙ stream_is metadata name stream s

    -- an identifier needs no filling up
    id_filled : length id ≡ 16 → filled id ≡ id
    unfolding filled round_up
    id_filled e =
        let full : (length id + 3) / 4 * 4 - length id ≡ 0 = omega arith in
        ap (λ n. id ++ replicate n 0) full ∙ append-nil id

    id_there : length id ≡ 16 → (heap : List ℕ) → heap ≡ id → HasGuid heap 1 id
    id_there e heap is = ([], is ∙ sym (append-nil id), e)

    pub holds_metadata : length id ≡ 16 → HoldsMetadata r tables id image
    holds_metadata e =
        let guids = reads (codes "#GUID") (filled id) p.has_guids ∙ id_filled e in
        record {
          root = has_root;
          written = rw bytes p.written;
          rows = record { stream = p.stream; holds = p.holds; is = reads (codes "#~") (filled p.stream) p.has_tables };
          strings = reads (codes "#Strings") (filled r.heaps.strings.bytes) p.has_strings;
          user = reads (codes "#US") (filled r.heaps.user.bytes) p.has_user;
          blobs = reads (codes "#Blob") (filled r.heaps.blobs.bytes) p.has_blobs;
          guids = guids;
          identifier = id_there e (guids_of image) guids;
        }
