-- The numbers of the demands on an image.
use Rattle.std.proofs.Common.{◌≡◌, ℕ, if◌then◌else◌, ◌≤◌, inl, inr, Bool, true, false, List, Option, None, Some, arith}
use Rattle.image_model.specs.Faults.{IsImageFault, RowRule, number_of}
use Rattle.image_model.specs.Faults.RowRule.{indexes, entries, manifest, runs, order, scopes, signatures, distinct, values, header, instructions, clauses, tokens, attributes, bases, accessors}
use Rattle.image_model.specs.Faults.IsImageFault.{in_headers, no_cli_header, in_cli_header, in_root, in_tables, in_row, in_entry, too_large}
use Rattle.image_model.specs.declared.place.Place.{Place}
use Rattle.metadata_tables.specs.Faults.{IsFault}
use Rattle.metadata_tables.specs.declared.fault.TableFault.{TableFault}
use Rattle.pe_layout.specs.Faults.{pe_fault, has_headers, is_in_profile, has_cli_header}
use Rattle.pe_layout.specs.Headers.{signature_place_of}
use Rattle.pe_layout.specs.declared.fault.PeFault.{PeFault}

abbrev found : Bool → Bool → Bool → ℕ → Option PeFault
found a b c place = if a then (if b then (if c then None else Some (record { rule = 3; at = 0 })) else Some (record { rule = 2; at = place })) else Some (record { rule = 1; at = 0 })

first_three : (a b c : Bool) (place : ℕ) (fault : PeFault) → found a b c place ≡ Some fault → (1 ≤ fault.rule) × (fault.rule ≤ 24)
first_three false b c place fault is = let e : 1 ≡ fault.rule = cc in (omega arith, omega arith)
first_three true false c place fault is = let e : 2 ≡ fault.rule = cc in (omega arith, omega arith)
first_three true true false place fault is = let e : 3 ≡ fault.rule = cc in (omega arith, omega arith)
first_three true true true place fault is = absurd cc

in_file : (image : List ℕ) (fault : PeFault) → pe_fault image ≡ Some fault → (1 ≤ fault.rule) × (fault.rule ≤ 24)
unfolding pe_fault
in_file image fault is = first_three (has_headers image) (is_in_profile image) (has_cli_header image) (signature_place_of image) fault is

in_stream : (stream : List ℕ) (fault : TableFault) → IsFault stream fault → (1 ≤ fault.rule) × (fault.rule ≤ 24)
in_stream stream fault (inl h) = let e = h.rule in (omega arith, omega arith)
in_stream stream fault (inr (inl h)) = let e = h.rule in (omega arith, omega arith)
in_stream stream fault (inr (inr h)) = let e = h.rule in (omega arith, omega arith)

of_rows : (rule : RowRule) → (1 ≤ number_of rule) × (number_of rule ≤ 24)
of_rows indexes = (omega arith, omega arith)
of_rows entries = (omega arith, omega arith)
of_rows manifest = (omega arith, omega arith)
of_rows runs = (omega arith, omega arith)
of_rows order = (omega arith, omega arith)
of_rows scopes = (omega arith, omega arith)
of_rows signatures = (omega arith, omega arith)
of_rows distinct = (omega arith, omega arith)
of_rows values = (omega arith, omega arith)
of_rows header = (omega arith, omega arith)
of_rows instructions = (omega arith, omega arith)
of_rows clauses = (omega arith, omega arith)
of_rows tokens = (omega arith, omega arith)
of_rows attributes = (omega arith, omega arith)
of_rows bases = (omega arith, omega arith)
of_rows accessors = (omega arith, omega arith)

pub numbered : (image : List ℕ) (rule : ℕ) (at : Place) → IsImageFault image rule at → (1 ≤ rule) × (rule ≤ 24)
numbered image rule at (in_headers {fault} is few) = in_file image fault is
numbered image rule at (no_cli_header is three) = (omega arith, omega arith)
numbered image rule at (in_cli_header fine bad) = (omega arith, omega arith)
numbered image rule at (in_root fine cli bad) = (omega arith, omega arith)
numbered image rule at (in_tables {fault} fine cli root is) = in_stream _ fault is
numbered image rule at (in_row names {rule = of} tables named before bad number) = let r = of_rows of in let e = number in let l = r.0 in let h = r.1 in (omega arith, omega arith)
numbered image rule at (in_entry tables rows bad) = (omega arith, omega arith)
numbered image rule at (too_large tables named rows is heavy) = (omega arith, omega arith)
