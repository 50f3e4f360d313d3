-- The first fault, by the demands that hold.
use Rattle.std.proofs.Common.{◌≡◌, ℕ, Bool, true, false, List, Some, None, refl}
use Rattle.pe_layout.specs.Headers.{signature_place_of}
use Rattle.pe_layout.specs.Faults.{has_headers, is_in_profile, has_cli_header, pe_fault}

pub fault_headers : (image : List ℕ) → has_headers image ≡ false → pe_fault image ≡ Some (record { rule = 1; at = 0 })
unfolding pe_fault
fault_headers image h = rw h refl

pub fault_profile : (image : List ℕ) → has_headers image ≡ true → is_in_profile image ≡ false → pe_fault image ≡ Some (record { rule = 2; at = signature_place_of image })
unfolding pe_fault
fault_profile image h p = rw (h, p) refl

pub fault_cli : (image : List ℕ) → has_headers image ≡ true → is_in_profile image ≡ true → has_cli_header image ≡ false → pe_fault image ≡ Some (record { rule = 3; at = 0 })
unfolding pe_fault
fault_cli image h p c = rw (h, p, c) refl

pub faultless : (image : List ℕ) → has_headers image ≡ true → is_in_profile image ≡ true → has_cli_header image ≡ true → pe_fault image ≡ None
unfolding pe_fault
faultless image h p c = rw (h, p, c) refl

pub not_true : (b : Bool) → (b ≡ true → false ≡ true) → b ≡ false
not_true true h = cc (h refl)
not_true false h = refl
