-- Lists of bytes, by the first and each other behind a blank.
use Rattle.std.proofs.Common.{◌≡◌, ℕ, ◌/◌, ◌%◌, ◌≤◌, List, [], ◌∷◌, ◌++◌, refl, ap, ◌∙◌, append_assoc, append-nil, length, get_or, take, drop, ◌-◌, arith}
use Rattle.std.specs.List.{flat_map}
use Rattle.listing_leaves.specs.Bytes.{pair, pairs}
use Rattle.listing_leaves.specs.Texts.{unit_bytes}
use Rattle.print_leaves.specs.Page.{Page, added}
use Rattle.print_leaves.specs.Spaced.{spaced, two_pairs, spaced_unit}
use Rattle.print_leaves.proofs.Lists.{rest_all}
use Rattle.print_leaves.proofs.Pages.{added_twice}

pairs_first : (b : ℕ) (bs : List ℕ) → pair b ++ flat_map spaced bs ≡ pairs (b ∷ bs)
pairs_first b [] = append-nil (pair b)
pairs_first b (c ∷ bs) = ap (λ x. pair b ++ 32 ∷ x) (pairs_first c bs)

pub pairs_added : (q : Page) (b : ℕ) (bs : List ℕ) → added (added q (pair b)) (flat_map spaced bs) ≡ added q (pairs (b ∷ bs))
pairs_added q b bs = added_twice q (pair b) (flat_map spaced bs) ∙ ap (added q) (pairs_first b bs)

units_spaced : (us : List ℕ) → flat_map spaced_unit us ≡ flat_map spaced (unit_bytes us)
units_spaced [] = refl
units_spaced (u ∷ us) =
    ap (λ x. 32 ∷ x) (append_assoc (pair (u % 256)) (32 ∷ pair (u / 256)) (flat_map spaced_unit us))
    ∙ ap (λ x. spaced (u % 256) ++ (spaced (u / 256) ++ x)) (units_spaced us)

units_first : (u : ℕ) (us : List ℕ) → two_pairs u ++ flat_map spaced_unit us ≡ pairs (unit_bytes (u ∷ us))
units_first u us =
    append_assoc (pair (u % 256)) (32 ∷ pair (u / 256)) (flat_map spaced_unit us)
    ∙ (ap (λ x. pair (u % 256) ++ (spaced (u / 256) ++ x)) (units_spaced us)
    ∙ pairs_first (u % 256) ((u / 256) ∷ unit_bytes us))

pub units_added : (q : Page) (u : ℕ) (us : List ℕ) → added (added q (two_pairs u)) (flat_map spaced_unit us) ≡ added q (pairs (unit_bytes (u ∷ us)))
units_added q u us = added_twice q (two_pairs u) (flat_map spaced_unit us) ∙ ap (added q) (units_first u us)

pub pairs_at : (q : Page) (bs : List ℕ) → 1 ≤ length bs → added (added q (pair (get_or bs 0 0))) (flat_map spaced (take (length bs - 1) (drop 1 bs))) ≡ added q (pairs bs)
pairs_at q [] h = absurd (omega arith)
pairs_at q (b ∷ bs) h = ap (λ x. added (added q (pair b)) (flat_map spaced x)) (rest_all b bs) ∙ pairs_added q b bs

pub units_at : (q : Page) (us : List ℕ) → 1 ≤ length us → added (added q (two_pairs (get_or us 0 0))) (flat_map spaced_unit (take (length us - 1) (drop 1 us))) ≡ added q (pairs (unit_bytes us))
units_at q [] h = absurd (omega arith)
units_at q (u ∷ us) h = ap (λ x. added (added q (two_pairs u)) (flat_map spaced_unit x)) (rest_all u us) ∙ units_added q u us
