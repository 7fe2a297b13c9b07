-- Writing safes: what the code's calls and its loop write is what the definitions take.
use mathlib.Core.Path.{◌≡◌, refl, sym, ap, ◌∙◌}
use mathlib.Core.Bool.{Bool, true, false}
use mathlib.Core.List.{List, [], ◌++◌}
use mathlib.Core.Option.{some}
use mathlib.Core.Option as option
use Prim.Native.Nat.{ℕ, ◌+◌, ◌≤◌, ◌<◌}
use native.Mathlib.Omega.{arith}
use lib.ListN.{length, get_or}
use Rattle.buffer.specs.Numbers.{file_bytes}
use Rattle.pkcs12.specs.Numbers.{safe_rows, pfx_version}
use Rattle.der.specs.Numbers.{sequence_tag}
use Rattle.pkcs12.specs.Identifiers.{data_type}
use Rattle.pkcs12.specs.Syntax.{encrypted}
use Rattle.pkcs12.specs.Encode.{bags_bytes, safe_bytes, safes_bytes, mac_bytes, encode}
use Rattle.der.specs.Octets.{integer}
use Rattle.pkcs12.specs.Table.{no_safe, sealed_in, mac_shown}
use Rattle.pkcs12.specs.declared.kind.SafeKind.{SafeKind}
use Rattle.pkcs12.specs.declared.kind.SafeKind.TheVariants.{Plain, Encrypted}
use Rattle.pkcs12.specs.declared.row.SafeRow.{SafeRow}
use Rattle.std.specs.Prelude.{None}
use Rattle.pkcs12.specs.declared.table.Table.{Table}
use Rattle.sizes.specs.Bodies.{mac_body}
use Rattle.sizes.specs.Picked.{safe_end, Picked, bags_picked, SafePicked, safe_picked, safes_picked}
use Rattle.sizes.specs.Sizes.{data_size, pfx_size, taken_sized, safes_sized}
use Rattle.encode.specs.Sizes.{capped}
use Rattle.sizes.specs.declared.rows.Taken.{Taken}
use Rattle.sizes.specs.declared.rows.Safes.{Safes}
use Rattle.encode.proofs.Capped.{sized_told}
use Rattle.sizes.proofs.Loops.{SafesSeen, SafesAll, safes_start, safes_end_lem, safes_not, safes_turn}
use Rattle.sizes.proofs.Taken.{taken_sized_lem, safe_is_empty, safe_is_plain, safe_is_encrypted}
use Rattle.buffer.specs.declared.write.Out.{Out}
use Rattle.buffer.specs.Wrote.{Wrote}
use Rattle.encode.specs.Header.{header}
use Rattle.writer.specs.Heads.{data_head}
use Rattle.writer.specs.Rows.{RowsPut, bags_part, safe_part, is_empty_safe, reading_at}
use Rattle.writer.specs.Wrote.{WroteIf, WroteShort}
use Rattle.writer.specs.declared.rows.RowsEnd.{RowsEnd}
use Rattle.writer.proofs.Puts.{short_nothing, short_as, short_then}
use Rattle.writer.proofs.Elements.{data_put, file_put}

module _ (t : Table) (s : List ℕ) (k first from : ℕ) (row : SafeRow) (e : row ≡ get_or t.safes k no_safe) where
  pub safe_nothing : (d : Out) → row.kind ≡ SafeKind.None
      → RowsPut d (safe_part (safe_picked t s k first from) first from) d
      (record { bag = first; attribute = from })
  unfolding safe_part
  safe_nothing d h = rw (safe_is_empty t s k first from row e h) record { put = short_nothing d; bag = refl; attribute = refl }

  pub plain_put : (inner : Taken) (d m z : Out) (r : RowsEnd) → row.kind ≡ Plain
      → inner ≡ taken_sized (bags_picked t s 7 k None first from)
      → WroteIf (data_size inner.size ≤ file_bytes) d (data_head data_type inner.size) m
      → RowsPut m (bags_part (bags_picked t s 7 k None first from)) z r → RowsPut d (safe_part (safe_picked t s k first from) first from) z r
  unfolding safe_part bags_part safe_bytes
  plain_put inner d m z r h i f w =
      let picked : Picked = bags_picked t s 7 k None first from in
      rw (safe_is_plain t s k first from row e h) record {
        put = data_put (bags_bytes picked.bags) inner.size (taken_sized_lem picked inner i) f w.put;
        bag = w.bag;
        attribute = w.attribute;
      }

  pub encrypted_safe_put : (d z : Out) → row.kind ≡ Encrypted
      → WroteShort d (safe_bytes (encrypted (sealed_in s row.parts))) z
      → RowsPut d (safe_part (safe_picked t s k first from) first from) z (record { bag = first; attribute = from })
  unfolding safe_part
  encrypted_safe_put d z h w = rw (safe_is_encrypted t s k first from row e h) record { put = w; bag = refl; attribute = refl }

-- a row that is a safe, and one that isn't
module _ (t : Table) (s : List ℕ) (k first from : ℕ) where
  empty_row : (c : SafeKind) → (get_or t.safes k no_safe).kind ≡ c → is_empty_safe c ≡ true → safe_picked t s k first from ≡ option.none
  empty_row SafeKind.None h e = safe_is_empty t s k first from (get_or t.safes k no_safe) refl h
  empty_row Plain h e = cc
  empty_row Encrypted h e = cc

  some_row : (c : SafeKind) → (get_or t.safes k no_safe).kind ≡ c → is_empty_safe c ≡ false → (p : SafePicked) × (safe_picked t s k first from ≡ some p)
  some_row SafeKind.None h e = (let z : ◌≡◌ {A = ℕ} 0 1 = cc in absurd (omega arith))
  some_row Plain h e = (_, safe_is_plain t s k first from (get_or t.safes k no_safe) refl h)
  some_row Encrypted h e = (_, safe_is_encrypted t s k first from (get_or t.safes k no_safe) refl h)

-- the loop of `safes`: the safes seen so far are written
pub record SafesPutting (t : Table) (s : List ℕ) (end : ℕ) (m z : Out) (r : RowsEnd) (k : ℕ) : Type 0 where
  pub seen_bytes : List ℕ
  pub seen : SafesSeen t s k r.bag r.attribute seen_bytes
  pub put : WroteShort m seen_bytes z
  pub end_is : end ≡ safe_end t
  pub within : end ≤ safe_rows

-- what writing a safe did
safe_gave : (d : Out) (p : SafePicked) (n m : ℕ) (z : Out) (r : RowsEnd) → RowsPut d (safe_part (some p) n m) z r
    → (WroteShort d (safe_bytes p.safe) z) × (r.bag ≡ p.bag) × (r.attribute ≡ p.attribute)
unfolding safe_part
safe_gave d p n m z r w = (w.put, w.bag, w.attribute)

module _ (t : Table) (s : List ℕ) where
  pub safes_begin : (end : ℕ) (m : Out) → end ≡ safe_end t → SafesPutting t s end m m (record { bag = 0; attribute = 0 }) 0
  safes_begin end m h =
      record { seen_bytes = []; seen = safes_start t s; put = short_nothing m; end_is = h; within = omega (arith, h) }

  module _ (end : ℕ) (m z : Out) (r : RowsEnd) (k : ℕ) (g : SafesPutting t s end m z r k) where
    all_put : SafesAll t s k r.bag r.attribute g.seen_bytes → WroteShort m (safes_bytes (safes_picked t s 0 0 0).safes) z
    all_put a = short_as (sym a.bytes) g.put

    pub safes_done : end ≤ k → WroteShort m (safes_bytes (safes_picked t s 0 0 0).safes) z
    safes_done h = all_put (safes_end_lem t s k r.bag r.attribute g.seen_bytes g.seen (rw g.end_is at h))

    module _ (h : k < end) (u : Bool) (b : u ≡ is_empty_safe (get_or t.safes k no_safe).kind) where
      pub safes_no_safe : u ≡ true → WroteShort m (safes_bytes (safes_picked t s 0 0 0).safes) z
      safes_no_safe y =
          all_put (safes_not t s k r.bag r.attribute g.seen_bytes g.seen (rw g.end_is at h)
          (empty_row t s k r.bag r.attribute _ refl (sym b ∙ y)))

      pub safes_one_more : (f : Out) (x : RowsEnd) → u ≡ false
          → RowsPut z (safe_part (safe_picked t s k r.bag r.attribute) r.bag r.attribute) f x
          → SafesPutting t s end m f x (k + 1)
      safes_one_more f x y w =
          let o = some_row t s k r.bag r.attribute _ refl (sym b ∙ y) in
          let a = safe_gave z o.0 r.bag r.attribute f x (rw o.1 at w) in
          record {
            seen_bytes = g.seen_bytes ++ safe_bytes o.0.safe;
            seen = rw (a.1, a.2) (safes_turn t s k r.bag r.attribute g.seen_bytes g.seen o.0 (rw g.end_is at h) o.1);
            put = short_then g.put a.0;
            end_is = g.end_is;
            within = g.within;
          }

  -- the whole file
  pub all_put_file : (all : Safes) (mac size : ℕ) {d m m2 m3 m4 e : Out}
      → all ≡ safes_sized (safes_picked t s 0 0 0) → mac ≡ capped (length (mac_body (mac_shown s t.mac))) → size ≡ capped (pfx_size all.size mac)
      → Wrote d (header sequence_tag size) m → Wrote m (integer pfx_version) m2
      → WroteIf (data_size all.size ≤ file_bytes) m2 (data_head data_type all.size) m3
      → WroteShort m3 (safes_bytes (safes_picked t s 0 0 0).safes) m4
      → WroteShort m4 (mac_bytes (mac_shown s t.mac)) e → WroteShort d (encode (reading_at t s)) e
  unfolding reading_at safes_sized
  all_put_file all mac size a b c f g h k w =
      let bytes : List ℕ = safes_bytes (safes_picked t s 0 0 0).safes in
      file_put (record { safes = (safes_picked t s 0 0 0).safes; mac = mac_shown s t.mac }) all.size mac size
      (sized_told all.size bytes (ap (λ (x : Safes). x.size) a)) (sized_told mac (mac_body (mac_shown s t.mac)) b) c f g h k w
