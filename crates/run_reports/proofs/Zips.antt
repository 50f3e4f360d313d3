-- Lists read one after the other.
use Rattle.std.proofs.Common.{◌≡◌, ℕ, zero, suc, ◌+◌, ◌<◌, ◌≤◌, List, [], ◌∷◌, ◌++◌, length, take, get_or, refl, sym, ap, subst, ◌∙◌, arith}
use Rattle.std.specs.List.{AllZip}
use Rattle.std.proofs.lemmas.List.{take_more}
use Rattle.assembly_tree.specs.declared.assembly.Assembly.{Assembly}
use Rattle.image_model.specs.Faults.{Reads, IsImageFault}
use Rattle.image_model.specs.declared.place.Place.{Place}
use Rattle.image_reader.specs.Outcome.{IsFaultOf}
use Rattle.image_reader.specs.declared.fault.ImageFault.{ImageFault}
use Rattle.image_reader.specs.declared.fault.ImageFault.TheVariants.{Bad, NoMemory}
use Rattle.run_images.specs.Laws.{FaultsAreNumbered}
use Rattle.run_reports.specs.Reports.{IsFirstFault}
use Rattle.run_reports.specs.Reports.IsFirstFault.{here, later}
use Rattle.run_reports.specs.Stops.{IsStop, stop_at}

pushed : {A B : Type 0} (R : A → B → Type 0) (xs : List A) (ys : List B) (x : A) (y : B) → AllZip R xs ys → R x y → AllZip R (xs ++ x ∷ []) (ys ++ y ∷ [])
pushed R [] [] x y zip r = (r, tt)
pushed R [] (b ∷ ys) x y zip r = absurd zip
pushed R (a ∷ xs) [] x y zip r = absurd zip
pushed R (a ∷ xs) (b ∷ ys) x y zip r = (zip.0, pushed R xs ys x y zip.1 r)

pub read_more : (images : List (List ℕ)) (k : ℕ) (image : List ℕ) (all : List Assembly) (a : Assembly) → k < length images → image ≡ get_or images k image
    → AllZip Reads (take k images) all → Reads image a → AllZip Reads (take (k + 1) images) (all ++ a ∷ [])
read_more images k image all a there is zip reads =
    subst (λ xs. AllZip Reads xs (all ++ a ∷ [])) (ap (λ x. take k images ++ x ∷ []) is ∙ sym (take_more images k image there))
    (pushed Reads (take k images) all image a zip reads)

-- the first fault stands behind those that are read
pub fault_behind : (images : List (List ℕ)) (k rule : ℕ) (at : Place) (image : List ℕ) (all : List Assembly) → k < length images → image ≡ get_or images k image
    → AllZip Reads (take k images) all → IsImageFault image rule at → IsFirstFault images k rule at
fault_behind [] k rule at image all there is zip fault = absurd (omega arith)
fault_behind (first ∷ images) zero rule at image all there is zip fault = here (subst (λ i. IsImageFault i rule at) is fault)
fault_behind (first ∷ images) (suc k) rule at image [] there is zip fault = absurd zip
fault_behind (first ∷ images) (suc k) rule at image (a ∷ all) there is zip fault = later a zip.0 (fault_behind images k rule at image all (omega arith) is zip.1 fault)

pub stop_behind : (images : List (List ℕ)) (k : ℕ) (image : List ℕ) (all : List Assembly) (fault : ImageFault) → k < length images → image ≡ get_or images k image
    → AllZip Reads (take k images) all → IsFaultOf image fault → IsStop images (stop_at k fault)
stop_behind images k image all (Bad rule at) there is zip fault = fault_behind images k rule at image all there is zip fault
stop_behind images k image all NoMemory there is zip fault = tt

-- as many are read as there are
pub zip_length : (images : List (List ℕ)) (all : List Assembly) → AllZip Reads images all → length all ≡ length images
zip_length [] [] zip = refl
zip_length [] (a ∷ all) zip = absurd zip
zip_length (image ∷ images) [] zip = absurd zip
zip_length (image ∷ images) (a ∷ all) zip = ap suc (zip_length images all zip.1)

-- the first fault stands in one of them, and has the number of a demand
pub fault_low : (images : List (List ℕ)) (k rule : ℕ) (at : Place) → IsFirstFault images k rule at → k < length images
fault_low [] k rule at fault = elim fault [ ]
fault_low (image ∷ images) k rule at (here fault) = omega arith
fault_low (image ∷ images) k rule at (later a reads fault) = let low = fault_low images _ rule at fault in omega (arith, low)

pub fault_range : (images : List (List ℕ)) (k rule : ℕ) (at : Place) → FaultsAreNumbered → IsFirstFault images k rule at → (1 ≤ rule) × (rule ≤ 24)
fault_range [] k rule at law fault = elim fault [ ]
fault_range (image ∷ images) k rule at law (here fault) = law image rule at fault
fault_range (image ∷ images) k rule at law (later a reads fault) = fault_range images _ rule at law fault
