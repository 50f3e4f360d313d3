-- The status that is due is that of what is given.
use Rattle.std.proofs.Common.{◌≡◌, ℕ, ◌≤◌, ◌^◌, List, Option, None, Some, length, refl, sym, ap, ◌∙◌}
use Rattle.image_assemblies.specs.Laws.{ImagesHaveOneOutcome}
use Rattle.run_endings.specs.declared.ending.Ending.{Ending}
use Rattle.run_listings.specs.Listings.{GivesListing, MeritsListing, told}
use Rattle.run_listings.specs.Listings.GivesListing.{a_listing, a_fault}
use Rattle.run_listings.specs.Listings.MeritsListing.{reading, faulty}

told_number : (out : Option (List ℕ)) (text : List ℕ) → (told out text).number ≡ 0
told_number None text = refl
told_number (Some name) text = refl

module _ (law : ImagesHaveOneOutcome) (file : List ℕ) (out : Option (List ℕ)) (image : List ℕ) (small : length image ≤ 2 ^ 26) (e : Ending) where
  pub is_due : (m : ℕ) → MeritsListing image m → GivesListing file out image e → e.number ≡ m
  is_due m (reading a reads zero) (a_listing b read denotes is) = ap (λ (x : Ending). x.number) is ∙ told_number out _ ∙ sym zero
  is_due m (reading a reads zero) (a_fault rule at fault is) = absurd ((law image small).not_both a rule at reads fault)
  is_due m (faulty rule at fault one) (a_listing b read denotes is) = absurd ((law image small).not_both b rule at read fault)
  is_due m (faulty rule at fault one) (a_fault r t bad is) = ap (λ (x : Ending). x.number) is ∙ sym one
