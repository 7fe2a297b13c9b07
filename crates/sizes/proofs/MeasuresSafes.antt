-- Measuring safes: what the code's calls and its loop return is the size of what the definitions
-- take.
use mathlib.Core.Path.{◌≡◌, refl, sym, ◌∙◌}
use mathlib.Core.List.{List, [], ◌++◌}
use Prim.Native.Nat.{ℕ, ◌+◌, ◌≤◌, ◌<◌}
use native.Mathlib.Omega.{arith}
use lib.ListN.{length, get_or}
use Rattle.pkcs12.specs.Numbers.{safe_rows}
use Rattle.pkcs12.specs.Encode.{bags_bytes, safe_bytes}
use Rattle.pkcs12.specs.Table.{no_safe, sealed_in}
use Rattle.pkcs12.specs.declared.kind.SafeKind.{SafeKind}
use Rattle.pkcs12.specs.declared.kind.SafeKind.TheVariants.{Plain, Encrypted}
use Rattle.pkcs12.specs.declared.row.SafeRow.{SafeRow}
use Rattle.std.specs.Prelude.{None, Option, Some}
use Rattle.pkcs12.specs.declared.table.Table.{Table}
use Rattle.sizes.specs.Bodies.{encrypted_data_body}
use Rattle.sizes.specs.Picked.{safe_end, Picked, bags_picked, safe_picked, safes_picked}
use Rattle.sizes.specs.Sizes.{content_info_size, data_size, sized_as, taken_sized, with_safe, safe_sized, safes_sized}
use Rattle.encode.specs.Sizes.{capped, element_size}
use Rattle.sizes.specs.declared.rows.Taken.{Taken}
use Rattle.sizes.specs.declared.rows.Safes.{Safes}
use Rattle.encode.proofs.Capped.{Near, near_told, near_then, near_element, sized_told, sum_is}
use Rattle.sizes.proofs.Nears.{near_data, near_content_info}
use Rattle.sizes.proofs.Leaves.{found_is}
use Rattle.sizes.proofs.Lengths.{length_data, length_encrypted}
use Rattle.sizes.proofs.Loops.{SafesSeen, SafesAll, safes_start, safes_end_lem, safes_not, safes_turn}
use Rattle.sizes.proofs.Taken.{taken_sized_lem, taken_bag, taken_attribute, found_safe, none_safe}
use Rattle.sizes.proofs.Taken.{safe_is_empty, safe_is_plain, safe_is_encrypted}

-- ---- one safe

module _ (t : Table) (s : List ℕ) (k first from : ℕ) (row : SafeRow) (e : row ≡ get_or t.safes k no_safe) where
  pub safe_none_sized : row.kind ≡ SafeKind.None → None ≡ safe_sized (safe_picked t s k first from)
  unfolding safe_sized
  safe_none_sized h = rw (safe_is_empty t s k first from row e h) refl

  pub safe_plain_sized : (taken : Taken) (body size : ℕ) → row.kind ≡ Plain
      → taken ≡ taken_sized (bags_picked t s 7 k None first from)
      → body ≡ capped (data_size taken.size) → size ≡ capped (element_size body)
      → Some (record { size = size; bag = taken.bag; attribute = taken.attribute })
      ≡ safe_sized (safe_picked t s k first from)
  unfolding safe_sized safe_bytes
  safe_plain_sized taken body size h w p q =
      let all : Picked = bags_picked t s 7 k None first from in
      let bytes : List ℕ = bags_bytes all.bags in
      let near : Near body (data_size (length bytes)) =
      near_then _ _ _ (near_told body _ p) (near_data taken.size (length bytes) (taken_sized_lem all taken w)) in
      found_is size body (data_size (length bytes)) taken.bag taken.attribute q near
      ∙ rw (
        safe_is_plain t s k first from row e h,
        length_data bytes,
        taken_bag all taken w,
        taken_attribute all taken w,
      ) refl

  pub safe_encrypted_sized : (content string info size : ℕ) → row.kind ≡ Encrypted
      → content ≡ capped (length (encrypted_data_body (sealed_in s row.parts)))
      → string ≡ capped (element_size content) → info ≡ capped (content_info_size string)
      → size ≡ capped (element_size info)
      → Some (record { size = size; bag = first; attribute = from }) ≡ safe_sized (safe_picked t s k first from)
  unfolding safe_sized
  safe_encrypted_sized content string info size h c p q r =
      let bytes : List ℕ = encrypted_data_body (sealed_in s row.parts) in
      let near : Near info (content_info_size (element_size (length bytes))) =
      near_then _ _ _ (near_told info _ q)
      (near_content_info string _
      (near_then _ _ _ (near_told string _ p) (near_element content (length bytes) (sized_told content bytes c)))) in
      found_is size info (content_info_size (element_size (length bytes))) first from r near
      ∙ rw (safe_is_encrypted t s k first from row e h, length_encrypted (sealed_in s row.parts)) refl

-- ---- the loop

pub record SafesGoing (t : Table) (s : List ℕ) (end : ℕ) (taken : Taken) (k : ℕ) : Type 0 where
  pub seen_bytes : List ℕ
  pub seen : SafesSeen t s k taken.bag taken.attribute seen_bytes
  pub size : taken.size ≡ capped (length seen_bytes)
  pub end_is : end ≡ safe_end t
  pub within : end ≤ safe_rows

module _ (t : Table) (s : List ℕ) where
  pub safes_starts : (end : ℕ) → end ≡ safe_end t → SafesGoing t s end (record { size = 0; bag = 0; attribute = 0 }) 0
  unfolding capped
  safes_starts end h =
      record { seen_bytes = []; seen = safes_start t s; size = refl; end_is = h; within = omega (arith, h) }

  module _ (end : ℕ) (taken : Taken) (k : ℕ) (g : SafesGoing t s end taken k) where
    all_safes : (r : Safes) → SafesAll t s k taken.bag taken.attribute g.seen_bytes → r ≡ with_safe taken k
        → r ≡ safes_sized (safes_picked t s 0 0 0)
    unfolding safes_sized
    all_safes r a p = p ∙ rw (a.bytes, a.safe, a.bag, a.attribute)
        (λ i. record { size = g.size i; safe = k; bag = taken.bag; attribute = taken.attribute })

    pub safes_ends : (r : Safes) → end ≤ k → r ≡ with_safe taken k → r ≡ safes_sized (safes_picked t s 0 0 0)
    safes_ends r h p = all_safes r
        (safes_end_lem t s k taken.bag taken.attribute g.seen_bytes g.seen (rw g.end_is at h)) p

    module _ (h : k < end) (r : Option Taken) (o : r ≡ safe_sized (safe_picked t s k taken.bag taken.attribute)) where
      pub safes_nots : (x : Safes) → r ≡ None → x ≡ with_safe taken k → x ≡ safes_sized (safes_picked t s 0 0 0)
      safes_nots x q p =
          all_safes x (safes_not t s k taken.bag taken.attribute g.seen_bytes g.seen (rw g.end_is at h)
          (none_safe _ (sym q ∙ o))) p

      pub safes_goes : (one joined : Taken) → r ≡ Some one
          → joined ≡ sized_as (taken.size + one.size) one.bag one.attribute → SafesGoing t s end joined (k + 1)
      safes_goes one joined q j =
          let a = found_safe one _ (sym q ∙ o) in
          let bytes : List ℕ = safe_bytes a.0.safe in
          rw (j, a.2) record {
            seen_bytes = g.seen_bytes ++ bytes;
            seen = safes_turn t s k taken.bag taken.attribute g.seen_bytes g.seen a.0
                (rw g.end_is at h) a.1;
            size = sum_is _ taken.size (capped (length bytes)) g.seen_bytes bytes refl
                (sized_told taken.size g.seen_bytes g.size) (sized_told (capped (length bytes)) bytes refl);
            end_is = g.end_is;
            within = g.within;
          }
