-- The frame of an image that is written.
use Rattle.std.proofs.Common.{◌≡◌, ℕ, ◌+◌, ◌-◌, ◌*◌, ◌^◌, ◌<◌, ◌≤◌, true, List, [], ◌∷◌, ◌++◌, length, take, drop, replicate, None, refl, sym, ◌∙◌, ap, subst, inr, arith, length-drop, IfOk, Result, Ok, Err}
use Rattle.std.proofs.lemmas.Bool.Decides.{nat_tests}
use Rattle.pe_layout.specs.declared.layout.Layout.{Layout}
use Rattle.pe_layout.specs.declared.parts.Kind.{Kind}
use Rattle.pe_layout.specs.declared.parts.Parts.{Parts}
use Rattle.pe_layout.specs.Fields.{u16_at, u32_at}
use Rattle.pe_layout.specs.Headers.{signature_place_of, machine_of, magic_of, directory_count_of, optional_size_of, section_count_of, section_table_of, entry_rva_of, directory_rva_of}
use Rattle.pe_layout.specs.FileMap.{readable, StandsAt}
use Rattle.pe_layout.specs.CliHeader.{cli_header_of, metadata_rva_of, metadata_size_of, metadata_of, entry_token_of}
use Rattle.pe_layout.specs.Faults.{has_headers, is_in_profile, has_cli_header, pe_fault}
use Rattle.pe_layout.specs.Numbers.{numbers_of, IsImageBase, IsFileAlignment}
use Rattle.pe_layout.specs.Frame.{HasDosHeader, HasFileHeader, HasStandardFields, HasNtFields, HasDirectories, HasSections, HasCliFields, HasImports, NamesFunction, HasEntryStub, HasRelocation, HasFrame, IsFilled}
use Rattle.pe_layout.specs.Kinds.{function_for}
use Rattle.pe_layout.specs.Layout.{headers, layout_of, image_by, image_of, IsRanged}
use Rattle.pe_layout.proofs.FirstFault.{faultless}
use Rattle.pe_layout.proofs.LaidOut.{LaidOut, laid_out}
use Rattle.pe_layout.proofs.WrittenHeaders.{HasNumbers, written_dos, written_file, written_standard, written_nt, written_directories, written_sections, written_numbers}
use Rattle.pe_layout.proofs.WrittenText.{address_table, IsCliHeader, cli_header, IsBack, is_back, is_block}
use Rattle.pe_layout.proofs.WrittenImage.{by_headers, behind, front_of, after_front, back_of, raw_text, reads_text, reads_front, reads_back, reads_reloc, length-raw_reloc, length-raw_text, length-image_by, headers_filled, text_filled, reloc_filled, code_stands, metadata_stands}

-- what holds of headers and what follows holds of the image
at_headers : (l : Layout) (p : Parts) (P : List ℕ → Type 0) → P (headers l p.numbers p.kind ++ behind l p) → P (image_by l p)
at_headers l p P h = subst P (sym (by_headers l p)) h

numbers : (l : Layout) (p : Parts) → LaidOut l p → HasNumbers (image_by l p) l p.numbers
numbers l p h =
    let P : List ℕ → Type 0 = λ image. HasNumbers image l p.numbers in
    at_headers l p P (written_numbers l p (behind l p) h)

directories : (l : Layout) (p : Parts) → HasDirectories (image_by l p)
directories l p =
    let P : List ℕ → Type 0 = λ image. HasDirectories image in
    at_headers l p P (written_directories l p.numbers p.kind (behind l p))

file_header : (l : Layout) (p : Parts) → HasFileHeader (image_by l p) p.kind
file_header l p =
    let P : List ℕ → Type 0 = λ image. HasFileHeader image p.kind in
    at_headers l p P (written_file l p.numbers p.kind (behind l p))

dos_header : (l : Layout) (p : Parts) → HasDosHeader (image_by l p)
dos_header l p =
    let P : List ℕ → Type 0 = λ image. HasDosHeader image in
    at_headers l p P (written_dos l p.numbers p.kind (behind l p))

standard : (l : Layout) (p : Parts) → HasStandardFields (image_by l p)
standard l p =
    let P : List ℕ → Type 0 = λ image. HasStandardFields image in
    at_headers l p P (written_standard l p.numbers p.kind (behind l p))

nt : (l : Layout) (p : Parts) → LaidOut l p → HasNtFields (image_by l p)
nt l p h =
    let P : List ℕ → Type 0 = λ image. HasNtFields image in
    at_headers l p P (written_nt l p (behind l p) h)

sections : (l : Layout) (p : Parts) → LaidOut l p → HasSections (image_by l p)
sections l p h =
    let P : List ℕ → Type 0 = λ image. HasSections image in
    at_headers l p P (written_sections l p (behind l p) h)

-- the CLI header stands behind the address table
cli_is : (l : Layout) (p : Parts) → LaidOut l p → cli_header_of (image_by l p) ≡ take 72 (drop 8 (front_of l p ++ after_front l p))
unfolding cli_header_of
cli_is l p h =
    ap (λ rva. take 72 (readable (image_by l p) rva)) (directories l p).cli_rva ∙ ap (take 72) (reads_front l p h 8 (omega arith))

cli : (l : Layout) (p : Parts) → LaidOut l p → IsCliHeader (cli_header_of (image_by l p)) l (length p.metadata) p.numbers.cor_flags p.entry
cli l p h =
    let P : List ℕ → Type 0 = λ bytes. IsCliHeader bytes l (length p.metadata) p.numbers.cor_flags p.entry in
    let size = h.metadata_len in
    let imports = h.bounded.imports_rva in
    let rva = h.imports_rva in
    subst P (sym (cli_is l p h)) (cli_header l (length p.metadata) p.numbers.cor_flags p.entry (after_front l p) (omega arith) (omega arith) h.ranged.cor_flags h.ranged.entry)

cli_fields : (l : Layout) (p : Parts) → LaidOut l p → HasCliFields (image_by l p)
cli_fields l p h =
    let c = cli l p h in
    record { cb = c.cb; runtime_major = c.major; runtime_minor = c.minor; resources_rva = c.zero_24; resources_size = c.zero_28; strong_name_rva = c.zero_32; strong_name_size = c.zero_36; code_manager_rva = c.zero_40; code_manager_size = c.zero_44; vtable_fixups_rva = c.zero_48; vtable_fixups_size = c.zero_52; export_jumps_rva = c.zero_56; export_jumps_size = c.zero_60; native_header_rva = c.zero_64; native_header_size = c.zero_68 }

back : (l : Layout) (p : Parts) → LaidOut l p → IsBack (back_of l p) l p.numbers p.kind
back l p h =
    is_back l p.numbers p.kind (replicate (l.text_raw - l.text_size) 0) h.bounded.imports_rva h.base

named : (image table hint : List ℕ) (kind : Kind) (entry : ℕ) → u32_at table 0 ≡ entry → readable image entry ≡ hint → take 14 hint ≡ 0 ∷ 0 ∷ function_for kind ++ 0 ∷ [] → take 4 (drop 4 table) ≡ replicate 4 0
    → NamesFunction image table kind
named image table hint kind entry e r t z =
    record { function = ap (λ rva. take 14 (readable image rva)) e ∙ ap (take 14) r ∙ t; ends = z }

imports : (l : Layout) (p : Parts) → LaidOut l p → HasImports (image_by l p) (readable (image_by l p) (directory_rva_of (image_by l p) 1)) p.kind
imports l p h =
    let image = image_by l p in
    let b = back l p h in
    let d = directories l p in
    let n = numbers l p h in
    let hint = reads_back l p h (l.imports_rva + 48) 48 refl (omega arith) in
    let front = address_table l (length p.metadata) p.numbers.cor_flags p.entry (after_front l p) h.bounded.imports_rva in
    let N : List ℕ → Type 0 = λ table. NamesFunction image table p.kind in
    let lookup = ap (readable image) b.lookup ∙ reads_back l p h (l.imports_rva + 40) 40 refl (omega arith) in
    let library = ap (readable image) b.library ∙ reads_back l p h (l.imports_rva + 62) 62 refl (omega arith) in
    let addresses = ap (readable image) d.addresses_rva ∙ reads_front l p h 0 (omega arith) in
    let I : List ℕ → Type 0 = λ bytes. HasImports image bytes p.kind in
    let here = ap (readable image) n.imports_rva ∙ reads_back l p h l.imports_rva 0 (omega arith) (omega arith) in
    subst I (sym here) (record {
      lookup = subst N (sym lookup) (named image (drop 40 (back_of l p)) (drop 48 (back_of l p)) p.kind (l.imports_rva + 48) b.entry hint b.function b.entry_ends);
      time_stamp = b.time_stamp;
      forwarder = b.forwarder;
      library = ap (take 12) library ∙ b.name;
      table = b.table ∙ sym d.addresses_rva;
      addresses = subst N (sym addresses) (named image (front_of l p ++ after_front l p) (drop 48 (back_of l p)) p.kind (l.imports_rva + 48) front.entry hint b.function front.ends);
      ends = b.ends;
    })

stub : (l : Layout) (p : Parts) → LaidOut l p → HasEntryStub (image_by l p) (readable (image_by l p) (entry_rva_of (image_by l p)))
stub l p h =
    let image = image_by l p in
    let b = back l p h in
    let d = directories l p in
    let n = numbers l p h in
    let S : List ℕ → Type 0 = λ bytes. HasEntryStub image bytes in
    let here = ap (readable image) n.entry_rva ∙ reads_back l p h (l.imports_rva + 74) 74 refl (omega arith) in
    let base = n.image_base in
    let addresses = d.addresses_rva in
    let address = b.address in
    subst S (sym here) (record { jump = b.jump; address = omega arith })

relocation : (l : Layout) (p : Parts) → LaidOut l p → HasRelocation (image_by l p) (readable (image_by l p) (directory_rva_of (image_by l p) 5))
relocation l p h =
    let image = image_by l p in
    let n = numbers l p h in
    let r = is_block l (replicate (l.reloc_raw - 12) 0) h.bounded.imports_rva in
    let R : List ℕ → Type 0 = λ bytes. HasRelocation image bytes in
    let here = ap (readable image) n.relocations_rva ∙ reads_reloc l p h in
    let len = length-raw_reloc l p h in
    let filled = h.bounded.reloc_filled in
    let size = n.relocations_size in
    let entry = n.entry_rva in
    let page = r.page in
    let place = r.entry in
    let pad = r.padding in
    subst R (sym here) (record {
      whole = omega arith;
      size = r.size ∙ sym size;
      page = omega arith;
      type_of = omega arith;
      place = omega arith;
      padding = inr (size, omega arith);
    })

frame : (l : Layout) (p : Parts) → LaidOut l p → HasFrame (image_by l p) p.kind
frame l p h =
    record { dos = dos_header l p; file = file_header l p; standard = standard l p; nt = nt l p h; directories = directories l p; sections = sections l p h; cli = cli_fields l p h; imports = imports l p h; stub = stub l p h; relocation = relocation l p h }

table_is : (l : Layout) (p : Parts) → section_table_of (image_by l p) ≡ 376
table_is l p =
    let place = (dos_header l p).signature_place in
    let optional = (file_header l p).optional_size in
    omega arith

filled : (l : Layout) (p : Parts) → LaidOut l p → IsFilled (image_by l p)
filled l p h =
    let n = numbers l p h in
    let table = table_is l p in
    let size = (nt l p h).header_size ∙ n.file_alignment in
    record {
      headers = rw (table, size) (headers_filled l p h);
      text = rw (table, n.text_size, n.text_raw, n.text_place) (text_filled l p h);
      reloc = rw (table, n.reloc_size, n.reloc_raw, n.reloc_place) (reloc_filled l p h);
      ends = rw (table, n.reloc_raw, n.reloc_place) (length-image_by l p h);
    }

headers_hold : (image : List ℕ) → u16_at image 0 ≡ 0x5A4D → signature_place_of image ≡ 0x80 → u32_at image (signature_place_of image) ≡ 0x4550 → section_table_of image ≡ 376 → section_count_of image ≡ 2
    → 456 ≤ length image → has_headers image ≡ true
unfolding has_headers
headers_hold image dos place signature table count len = grind (arith, nat_tests)

profile_holds : (image : List ℕ) → machine_of image ≡ 0x14C → magic_of image ≡ 0x10B → directory_count_of image ≡ 16 → optional_size_of image ≡ 0xE0 → is_in_profile image ≡ true
unfolding is_in_profile
profile_holds image machine magic count size = grind (arith, nat_tests)

cli_held : (image : List ℕ) → 72 ≤ length (readable image (directory_rva_of image 14)) → has_cli_header image ≡ true
unfolding has_cli_header
cli_held image len = grind (arith, nat_tests)

opens : (l : Layout) (p : Parts) → LaidOut l p → pe_fault (image_by l p) ≡ None
opens l p h =
    let image = image_by l p in
    let n = numbers l p h in
    let d = dos_header l p in
    let f = file_header l p in
    let place = d.signature_place in
    let optional = f.optional_size in
    let table = table_is l p in
    let whole = length-image_by l p h in
    let low = h.alignment_low in
    let filled = h.bounded.text_filled in
    let size = h.text_size in
    let rva = h.imports_rva in
    let code = h.metadata_rva in
    let len : 456 ≤ length image = omega arith in
    let here = ap (readable image) (directories l p).cli_rva ∙ reads_text l p h 8 (omega arith) in
    let cut = ap length here ∙ length-drop 8 (raw_text l p) in
    let text = length-raw_text l p h in
    faultless image (headers_hold image n.dos place f.signature table f.section_count len) (profile_holds image f.machine (standard l p).magic (nt l p h).directory_count optional) (cli_held image (omega arith))

numbers_are : (l : Layout) (p : Parts) → LaidOut l p → numbers_of (image_by l p) ≡ p.numbers
numbers_are l p h =
    let n = numbers l p h in
    let c = cli l p h in
    rw (n.image_base, n.file_alignment, n.stack_reserve, n.subsystem, c.cor_flags) refl

-- what the clauses of `write` say
pub record IsWritten (image : List ℕ) (p : Parts) : Type 0 where
  pub opens : pe_fault image ≡ None
  pub frame : HasFrame image p.kind
  pub filled : IsFilled image
  pub numbers : numbers_of image ≡ p.numbers
  pub entry : entry_token_of image ≡ p.entry
  pub code : StandsAt image 0x2050 p.code
  pub metadata : StandsAt image (metadata_rva_of image) p.metadata
  pub metadata_size : metadata_size_of image ≡ length p.metadata
  pub metadata_bytes : metadata_of image ≡ p.metadata
  pub len : length image ≤ length p.code + length p.metadata + 3 * p.numbers.file_alignment + 178

metadata_is : (image bytes : List ℕ) → StandsAt image (metadata_rva_of image) bytes → metadata_size_of image ≡ length bytes → metadata_of image ≡ bytes
unfolding metadata_of
metadata_is image bytes stands size =
    let here : metadata_rva_of image + 0 ≡ metadata_rva_of image = omega arith in
    let all : length bytes - 0 ≡ length bytes = omega arith in
    rw size (rw (here, all) at (stands.from 0 (omega arith)))

written_by : (l : Layout) (p : Parts) → LaidOut l p → IsWritten (image_by l p) p
written_by l p h =
    let c = cli l p h in
    let S : ℕ → Type 0 = λ rva. StandsAt (image_by l p) rva p.metadata in
    let whole = length-image_by l p h in
    let len = h.len in
    let stands = subst S (sym c.metadata_rva) (metadata_stands l p h) in
    record { opens = opens l p h; frame = frame l p h; filled = filled l p h; numbers = numbers_are l p h; entry = c.entry_token; code = code_stands l p h; metadata = stands; metadata_size = c.metadata_size; metadata_bytes = metadata_is (image_by l p) p.metadata stands c.metadata_size; len = omega arith }

pub written : (image : List ℕ) (p : Parts) → IsImageBase p.numbers.image_base → IsFileAlignment p.numbers.file_alignment → length p.code + length p.metadata < 2 ^ 26 → (image ≡ image_of p) × IsRanged p
    → IsWritten image p
unfolding image_of
written image p base alignment size h =
    let W : List ℕ → Type 0 = λ bytes. IsWritten bytes p in
    let l = layout_of (length p.code) (length p.metadata) p.numbers.file_alignment in
    subst W (sym h.0) (written_by l p (laid_out p base alignment size h.1))

-- what follows for the value of an Ok
pub if_ok : {T E : Type 0} (r : Result T E) (P Q : T → Type 0) → ((x : T) → P x → Q x) → IfOk r P → IfOk r Q
if_ok (Ok x) P Q f h = f x h
if_ok (Err e) P Q f h = tt
