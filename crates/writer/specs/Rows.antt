-- What the functions that write rows do: the bytes of the rows that they take, and the next rows.
use Rattle.std.specs.Prelude.{◌≡◌, Bool, true, false, List, [], ℕ, ◌+◌}
use Rattle.std.proofs.Math.Option.{Option, some}
use Rattle.std.proofs.Math.Option as option
use Rattle.pkcs12.specs.Syntax.{none, Pfx}
use Rattle.pkcs12.specs.Encode.{set_bytes, bag_bytes, bags_bytes, safe_bytes}
use Rattle.pkcs12.specs.Table.{mac_shown}
use Rattle.pkcs12.specs.declared.kind.SafeKind.{SafeKind}
use Rattle.pkcs12.specs.declared.kind.SafeKind.TheVariants.{Plain, Encrypted}
use Rattle.pkcs12.specs.declared.row.BagRow.{BagRow}
use Rattle.pkcs12.specs.declared.table.Table.{Table}
use Rattle.sizes.specs.Bodies.{content_of}
use Rattle.sizes.specs.Picked.{SetPicked, Picked, OnePicked, SafePicked, set_picked, safes_picked}
use Rattle.buffer.specs.declared.write.Out.{Out}
use Rattle.writer.specs.declared.rows.RowsEnd.{RowsEnd}
use Rattle.writer.specs.Wrote.{WroteShort}

pub record SetPut (d : Out) (p : SetPicked) (e : Out) (r : ℕ) : Type 0 where
  pub put : WroteShort d (set_bytes p.set) e
  pub next : r ≡ p.next

-- bytes, and the rows behind those that they are written from
pub record Part : Type 0 where
  pub bytes : List ℕ
  pub bag : ℕ
  pub attribute : ℕ

pub record RowsPut (d : Out) (p : Part) (e : Out) (r : RowsEnd) : Type 0 where
  pub put : WroteShort d p.bytes e
  pub bag : r.bag ≡ p.bag
  pub attribute : r.attribute ≡ p.attribute

abbrev pub no_part : ℕ → ℕ → Part
no_part n m = record { bytes = []; bag = n; attribute = m }

-- bag n, from its row
unfoldable pub leaf_part : Table → List ℕ → BagRow → ℕ → ℕ → Part
leaf_part t s r n m =
    let set = set_picked t s r.has_set n m in
    record { bytes = bag_bytes r.kind (content_of s r.kind r.parts) set.set; bag = n + 1; attribute = set.next }

unfoldable pub one_part : Option OnePicked → ℕ → ℕ → Part
one_part option.none n m = no_part n m
one_part (some p) n m = record { bytes = bags_bytes (p.front none); bag = p.bag; attribute = p.attribute }

unfoldable pub bags_part : Picked → Part
bags_part p = record { bytes = bags_bytes p.bags; bag = p.bag; attribute = p.attribute }

unfoldable pub safe_part : Option SafePicked → ℕ → ℕ → Part
safe_part option.none n m = no_part n m
safe_part (some p) n m = record { bytes = safe_bytes p.safe; bag = p.bag; attribute = p.attribute }

abbrev pub is_empty_safe : SafeKind → Bool
is_empty_safe SafeKind.None = true
is_empty_safe Plain = false
is_empty_safe Encrypted = false

-- the reading that the rows show if they are in order
unfoldable pub reading_at : Table → List ℕ → Pfx
reading_at t s = record { safes = (safes_picked t s 0 0 0).safes; mac = mac_shown s t.mac }
