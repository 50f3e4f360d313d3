-- Different offsets have different labels, and so has different data.
use Rattle.std.proofs.Common.{◌≡◌, ℕ, ◌-◌, ◌^◌, ◌<◌, false, length, drop, ap, sym, ◌∙◌, arith}
use Rattle.std.proofs.lemmas.Fmt.{decimal_is_IsNumeral_wide, digits_is_IsNumeral}
use Rattle.std.specs.Fmt.{digits, decimal}
use Rattle.source_model.specs.Values.{number_by}
use Rattle.listing_leaves.specs.Numbers.{label, data_label}
use Rattle.listing_values.specs.Laws.{LabelsDiffer}
use Rattle.listing_values.proofs.Numbers.{digits_read, wider_digits, padded}

-- the number in a label
label_number : (offset : ℕ) → offset < 2 ^ 128 → number_by 16 (drop 3 (label offset)) ≡ offset
unfolding label
label_number offset small =
    let numeral = digits_is_IsNumeral 16 false (omega arith) (omega arith) offset (grind (arith, small)) in
    let ds = digits 16 false offset in
    padded (4 - length ds) ds ∙ (digits_read 16 0 ds numeral.0.1 ∙ numeral.1)

data_number : (k : ℕ) → k < 2 ^ 128 → number_by 10 (drop 2 (data_label k)) ≡ k
unfolding data_label
data_number k small =
    let numeral = decimal_is_IsNumeral_wide k (grind (arith, small)) in
    digits_read 10 0 (decimal k) (wider_digits (decimal k) numeral.0.1) ∙ numeral.1

pub labels_differ : LabelsDiffer
labels_differ = record {
  offsets = λ m n low high e. sym (label_number m low) ∙ (ap (λ t. number_by 16 (drop 3 t)) e ∙ label_number n high);
  contents = λ j k low high e. sym (data_number j low) ∙ (ap (λ t. number_by 10 (drop 2 t)) e ∙ data_number k high);
}
