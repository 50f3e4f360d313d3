-- The metadata root in parts: its headers lie inside, and its streams stand once.
use Rattle.std.proofs.Common.{◌≡◌, ℕ, ◌+◌, ◌<◌, ◌≤◌, ◌⊎◌, List, length, refl, sym, subst, ap, ◌∙◌, inl, inr, Bool, true, false, arith}
use Rattle.std.specs.Prelude.{All, if◌then◌else◌, Some, None, Option, IfSome}
use Rattle.std.specs.Option.{option_map_or}
use Rattle.pe_layout.specs.Faults.{pe_fault, has_headers, is_in_profile, has_cli_header}
use Rattle.pe_layout.specs.Headers.{signature_place_of}
use Rattle.pe_layout.specs.declared.fault.PeFault.{PeFault}
use Rattle.image_model.specs.declared.place.Place.{Place}
use Rattle.image_model.specs.declared.place.Place.TheVariants.{Byte, Whole}
use Rattle.image_model.specs.Faults.{IsImageFault, in_headers, no_cli_header}
use Rattle.pe_layout.specs.Fields.{u32_at}
use Rattle.pe_layout.specs.CliHeader.{metadata_of, metadata_size_of}
use Rattle.image_model.specs.Root.{StreamHeader, headers_of, headers_end, headers_from, headers_end_from, flags_place, stream_count}
use Rattle.image_model.specs.Streams.{HasRoot}
use Rattle.image_streams.specs.Walks.{LieInside, StandOnce}

headers_are : (metadata : List ℕ) → headers_of metadata ≡ headers_from metadata (flags_place metadata + 4) (stream_count metadata)
unfolding headers_of
headers_are metadata = refl

end_is : (metadata : List ℕ) → headers_end metadata ≡ headers_end_from metadata (flags_place metadata + 4) (stream_count metadata)
unfolding headers_end
end_is metadata = refl

abbrev Inside : List ℕ → List StreamHeader → Type 0
Inside metadata headers = All (λ header. header.offset + header.size ≤ length metadata) headers

pub lie_in_root : (image : List ℕ) → HasRoot image → LieInside (metadata_of image)
lie_in_root image r =
    record {
      headers = subst (λ end. end ≤ length (metadata_of image)) (end_is (metadata_of image)) r.headers;
      streams = subst (Inside (metadata_of image)) (headers_are (metadata_of image)) r.inside;
    }

pub stand_in_root : (image : List ℕ) → HasRoot image → StandOnce (metadata_of image)
stand_in_root image r =
    record { tables = r.tables; no_others = r.no_others; strings = r.strings; user = r.user; guids = r.guids; blobs = r.blobs }

pub root_of_parts : (image : List ℕ) → length (metadata_of image) ≡ metadata_size_of image → u32_at (metadata_of image) 0 ≡ 0x424A5342
    → LieInside (metadata_of image) → StandOnce (metadata_of image) → HasRoot image
root_of_parts image there signature lie once =
    record {
      there = there;
      signature = signature;
      headers = subst (λ end. end ≤ length (metadata_of image)) (sym (end_is (metadata_of image))) lie.headers;
      inside = subst (Inside (metadata_of image)) (sym (headers_are (metadata_of image))) lie.streams;
      tables = once.tables;
      no_others = once.no_others;
      strings = once.strings;
      user = once.user;
      guids = once.guids;
      blobs = once.blobs;
    }

-- ---- the headers' faults

zero_is_one : (a b : ℕ) → a ≡ 0 → b ≡ 1 → a ≡ b → ⊥
zero_is_one a b x y e = absurd (omega arith)

none_is_none : (fault : PeFault) → None ≡ Some fault → ⊥
none_is_none fault e = zero_is_one 0 1 refl refl (ap (λ (o : Option PeFault). option_map_or (λ f. 1) o 0) e)

rule_three : (a b c : Bool) (place : ℕ) (fault : PeFault)
    → (if a then (if b then (if c then None else Some (record { rule = 3; at = 0 })) else Some (record { rule = 2; at = place })) else Some (record { rule = 1; at = 0 })) ≡ Some fault
    → (fault.rule < 3) ⊎ (fault.rule ≡ 3)
rule_three true true true place fault e = absurd (none_is_none fault e)
rule_three true true false place fault e = inr (sym (ap (λ o. option_map_or (λ f. f.rule) o 3) e))
rule_three true false c place fault e = inl (let r : 2 ≡ fault.rule = ap (λ o. option_map_or (λ f. f.rule) o 2) e in omega arith)
rule_three false b c place fault e = inl (let r : 1 ≡ fault.rule = ap (λ o. option_map_or (λ f. f.rule) o 1) e in omega arith)

pub rule_in_headers : (image : List ℕ) (fault : PeFault) → pe_fault image ≡ Some fault → (fault.rule < 3) ⊎ (fault.rule ≡ 3)
unfolding pe_fault
rule_in_headers image fault e = rule_three (has_headers image) (is_in_profile image) (has_cli_header image) (signature_place_of image) fault e

pub in_headers_at : (image : List ℕ) (fault : PeFault) (rule : ℕ) (at : Place) → pe_fault image ≡ Some fault → rule ≡ fault.rule
    → (fault.rule < 3 → at ≡ Byte fault.at) → (3 ≤ fault.rule → at ≡ Whole) → IsImageFault image rule at
in_headers_at image fault rule at e same byte whole = elim (rule_in_headers image fault e) [
  | inl low ↦ subst (λ r. IsImageFault image r at) (sym same) (subst (IsImageFault image fault.rule) (sym (byte low)) (in_headers e low))
  | inr three ↦ subst (λ r. IsImageFault image r at) (sym (same ∙ three)) (subst (IsImageFault image 3) (sym (whole (omega arith))) (no_cli_header e three))
]

pub if_some : {X : Type 0} (P Q : X → Type 0) (o : Option X) → ((x : X) → P x → Q x) → IfSome o P → IfSome o Q
if_some P Q None f h = tt
if_some P Q (Some x) f h = f x h
