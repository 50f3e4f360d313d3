-- What was found, and what is said of it.
use Rattle.std.proofs.Common.{◌≡◌, ℕ, List, Option, Some, None, Result, Ok, Err, IfOk, IfSome, IfNone, subst}
use Rattle.heaps.specs.Content.{HasBlob}
use Rattle.image_model.specs.Streams.{blobs_of, tables_of}
use Rattle.metadata_tables.specs.Stream.{cell}
use Rattle.kept_members.specs.Members.{BlobIs}

pub if_found : {X E : Type 0} (P Q : X → Type 0) (r : Result (Option X) E) → ((x : X) → P x → Q x) → IfOk r (λ o. IfSome o P) → IfOk r (λ o. IfSome o Q)
if_found P Q (Ok (Some x)) f h = f x h
if_found P Q (Ok None) f h = tt
if_found P Q (Err e) f h = tt

pub if_none : {X E A B : Type 0} (r : Result (Option X) E) → (A → B) → IfOk r (λ o. IfNone o A) → IfOk r (λ o. IfNone o B)
if_none (Ok (Some x)) f h = tt
if_none (Ok None) f h = f h
if_none (Err e) f h = tt

pub found_is : {X E : Type 0} (P : X → Type 0) (r : Result (Option X) E) (x : X) → r ≡ Ok (Some x) → IfOk r (λ o. IfSome o P) → P x
found_is P r x e h = subst (λ s. IfOk s (λ o. IfSome o P)) e h

-- no blob of a cell spells what its bytes don't
pub none_in : {X : Type 0} (image : List ℕ) (Is : List ℕ → X → Type 0) (table row column : ℕ) (bytes : List ℕ)
    → ((index : ℕ) (a b : List ℕ) → HasBlob (blobs_of image) index a → HasBlob (blobs_of image) index b → a ≡ b)
    → HasBlob (blobs_of image) (cell (tables_of image) table row column) bytes → ((x : X) → Is bytes x → ⊥) → (x : X) → BlobIs image Is table row column x → ⊥
none_in image Is table row column bytes one has none x h = none x (subst (λ (b : List ℕ). Is b x) (one (cell (tables_of image) table row column) h.0 bytes h.1 has) h.2)
