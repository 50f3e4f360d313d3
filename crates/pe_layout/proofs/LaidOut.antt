-- What is known of the numbers of a layout.
use Rattle.std.proofs.Common.{◌≡◌, ℕ, ◌+◌, ◌-◌, ◌*◌, ◌%◌, ◌^◌, ◌<◌, ◌≤◌, length, refl, arith}
use Rattle.pe_layout.specs.declared.layout.Layout.{Layout}
use Rattle.pe_layout.specs.declared.parts.Parts.{Parts}
use Rattle.pe_layout.specs.Fields.{round_up}
use Rattle.pe_layout.specs.Layout.{layout_of, IsBounded, IsRanged}
use Rattle.pe_layout.specs.Numbers.{IsImageBase, IsFileAlignment}

pub round_up-least : (n unit : ℕ) → 0 < unit → (n ≤ round_up n unit) × (round_up n unit < n + unit)
unfolding round_up
round_up-least n unit h = (omega arith, omega arith)

pub round_up-multiple : (n : ℕ) → round_up n 0x2000 % 0x2000 ≡ 0
unfolding round_up
round_up-multiple n = omega arith

pub round_up-past : (n : ℕ) → n % 0x2000 ≡ 0 → round_up (n + 12) 0x2000 ≡ n + 0x2000
unfolding round_up
round_up-past n h = omega arith

-- where things stand, and that each number fits its field
pub record LaidOut (l : Layout) (p : Parts) : Type 0 where
  pub ranged : IsRanged p
  pub base : p.numbers.image_base + 0x2000 < 2 ^ 32
  pub alignment_low : 0x200 ≤ p.numbers.file_alignment
  pub alignment_high : p.numbers.file_alignment ≤ 0x1000
  pub metadata_len : length p.metadata < 2 ^ 26
  pub metadata_rva : l.metadata_rva ≡ 0x2050 + round_up (length p.code) 4
  pub imports_rva : l.imports_rva ≡ l.metadata_rva + round_up (length p.metadata) 4
  pub text_size : l.text_size + 0x2000 ≡ l.imports_rva + 80
  pub text_raw : l.text_raw ≡ round_up l.text_size p.numbers.file_alignment
  pub reloc_rva : l.reloc_rva ≡ round_up (0x2000 + l.text_size) 0x2000
  pub reloc_raw : l.reloc_raw ≡ round_up 12 p.numbers.file_alignment
  pub code_up : length p.code ≤ round_up (length p.code) 4
  pub metadata_up : length p.metadata ≤ round_up (length p.metadata) 4
  pub bounded : IsBounded l
  pub reloc_past : 0x2000 + l.text_size ≤ l.reloc_rva
  pub reloc_page : l.reloc_rva % 0x2000 ≡ 0
  pub len : p.numbers.file_alignment + l.text_raw + l.reloc_raw ≤ length p.code + length p.metadata + 3 * p.numbers.file_alignment + 178

pub laid_out : (p : Parts) → IsImageBase p.numbers.image_base → IsFileAlignment p.numbers.file_alignment → length p.code + length p.metadata < 2 ^ 26 → IsRanged p
    → LaidOut (layout_of (length p.code) (length p.metadata) p.numbers.file_alignment) p
unfolding layout_of
laid_out p base alignment size ranged =
    let code = length p.code in
    let metadata = length p.metadata in
    let unit = p.numbers.file_alignment in
    let low : 0x200 ≤ unit = grind arith in
    let high : unit ≤ 0x1000 = grind arith in
    let c = round_up-least code 4 (omega arith) in
    let m = round_up-least metadata 4 (omega arith) in
    let text = 0x2050 + round_up code 4 + round_up metadata 4 + 80 - 0x2000 in
    let t = round_up-least text unit (omega arith) in
    let r = round_up-least (0x2000 + text) 0x2000 (omega arith) in
    let s = round_up-least 12 unit (omega arith) in
    record {
      ranged = ranged;
      base = let greatest = base.greatest in omega arith;
      alignment_low = low;
      alignment_high = high;
      metadata_len = omega arith;
      metadata_rva = refl;
      imports_rva = refl;
      text_size = omega arith;
      text_raw = refl;
      reloc_rva = refl;
      reloc_raw = refl;
      code_up = c.0;
      metadata_up = m.0;
      bounded = record { imports_rva = omega arith; text_raw = omega arith; text_filled = omega arith; reloc_rva = omega arith; reloc_raw = omega arith; reloc_filled = omega arith };
      reloc_past = r.0;
      reloc_page = round_up-multiple (0x2000 + text);
      len = omega arith;
    }
