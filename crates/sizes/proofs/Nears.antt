-- Sizes of bags, ContentInfos and files that are reported alike.
use Prim.Native.Nat.{ℕ}
use mathlib.Core.Path.{◌≡◌}
use Rattle.encode.specs.Sizes.{capped}
use Rattle.encode.proofs.Capped.{Near, near_same, near_plus, near_element, told}
use Rattle.sizes.specs.Sizes.{bag_size, content_info_size, data_size, pfx_size}

pub near_bag : (a b c d : ℕ) → Near a c → Near b d → Near (bag_size a b) (bag_size c d)
unfolding bag_size
near_bag a b c d p q = near_plus 13 _ 13 _ (near_same 13) (near_plus _ b _ d (near_element a c p) q)

pub near_content_info : (a c : ℕ) → Near a c → Near (content_info_size a) (content_info_size c)
unfolding content_info_size
near_content_info a c p = near_plus 11 _ 11 _ (near_same 11) (near_element a c p)

pub told_content_info : (r a c : ℕ) → r ≡ capped (content_info_size a) → Near a c → r ≡ capped (content_info_size c)
told_content_info r a c e p = told r (content_info_size a) (content_info_size c) e (near_content_info a c p)

pub near_data : (a c : ℕ) → Near a c → Near (data_size a) (data_size c)
unfolding data_size
near_data a c p = near_content_info _ _ (near_element _ _ (near_element a c p))

pub near_pfx : (a b c d : ℕ) → Near a c → Near b d → Near (pfx_size a b) (pfx_size c d)
unfolding pfx_size
near_pfx a b c d p q = near_plus 3 _ 3 _ (near_same 3) (near_plus _ _ _ _ (near_element _ _ (near_data a c p)) (near_element b d q))
