-- What stands at an index of a heap (ECMA-335 II.24.2.3 to II.24.2.5).
use Rattle.std.specs.Prelude.{◌≡◌, ◌≢◌, ℕ, zero, suc, ◌*◌, ◌%◌, List, [], ◌∷◌, ◌++◌, All, IsUtf8, length, drop}
use Rattle.il_base.specs.Numbers.{Packed}

-- the bytes begin with a text in UTF-8 and the zero byte that ends it
abbrev pub BeginsText : List ℕ → List ℕ → Type 0
BeginsText bytes text = (rest : List ℕ) × (bytes ≡ text ++ (0 ∷ rest)) × All (λ byte. byte ≢ 0) text × IsUtf8 text

-- `#Strings`: index 0 is the empty text; from any other index on the text stands in UTF-8, up to the first zero byte
abbrev pub HasText : List ℕ → ℕ → List ℕ → Type 0
HasText heap zero text = text ≡ []
HasText heap (suc k) text = BeginsText (drop (suc k) heap) text

-- `#Blob`: index 0 is the empty blob; at any other index stand its length as a packed number and then its bytes
abbrev pub HasBlob : List ℕ → ℕ → List ℕ → Type 0
HasBlob heap zero blob = blob ≡ []
HasBlob heap (suc k) blob =
    (spelling : List ℕ) × (rest : List ℕ) × (drop (suc k) heap ≡ spelling ++ (blob ++ rest)) × Packed spelling (length blob)

-- `#US`: the entry is a blob of UTF-16 units, two bytes each, and one last byte
abbrev pub HasUnits : List ℕ → ℕ → List ℕ → Type 0
HasUnits heap index units = (last : ℕ) × HasBlob heap index (units ++ last ∷ []) × (length units % 2 ≡ 0)

-- `#GUID`: identifiers of 16 bytes, counted from 1
abbrev pub HasGuid : List ℕ → ℕ → List ℕ → Type 0
HasGuid heap zero id = ⊥
HasGuid heap (suc k) id = (rest : List ℕ) × (drop (16 * k) heap ≡ id ++ rest) × (length id ≡ 16)
