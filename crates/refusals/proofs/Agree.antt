-- What the walk answers and what the account comes to agree: the same refusal, or the same rows and
-- the same bytes left.
use mathlib.Core.Path.{◌≡◌, refl}
use mathlib.Core.List.{List}
use Prim.Native.Nat.{ℕ}
use lib.ListN.{length}
use Rattle.der.specs.Element.{cursor}
use Rattle.der.specs.Opaque.{on_checked}
use Rattle.der.specs.declared.Fault.{Fault}
use Rattle.der.specs.declared.Cursor.{Cursor}
use Rattle.der.specs.declared.Checked.{Checked}
use Rattle.pkcs12.specs.declared.answers.Parsed.{Parsed}
use Rattle.std.specs.Prelude.{Err, Ok, Result}
use Rattle.pkcs12.specs.Table.{Rows}
use Rattle.pkcs12.specs.Walk.{on_parts, on_mac, on_walked, Walked, Refused, Went}
use Rattle.pkcs12.specs.declared.row.Parts.{Parts}
use Rattle.pkcs12.specs.declared.row.Mac.{Mac}
use Rattle.refusals.specs.Element.{Left, Made, Account, stops, goes, closed}
use Rattle.refusals.proofs.Links.{here, link_full}

-- an answer of the walk: a refusal, or how many rows there are and the cursor past the part
pub data Out : Type 0 where
  refuses : Fault → Out
  reaches : Made → Cursor → Out

abbrev pub made_in : Rows → Made
made_in st = record { safes = length st.safes; bags = length st.bags; attributes = length st.attributes }

abbrev pub checked_out : Made → Result Checked Fault → Out
checked_out m (Err f) = refuses f
checked_out m (Ok x) = reaches m x.next

abbrev pub parts_out : Made → Result (Parsed Parts) Fault → Out
parts_out m (Err f) = refuses f
parts_out m (Ok x) = reaches m x.next

abbrev pub mac_out : Made → Result (Parsed Mac) Fault → Out
mac_out m (Err f) = refuses f
mac_out m (Ok y) = reaches m y.next

abbrev pub walked_out : Walked → Out
walked_out (Refused f) = refuses f
walked_out (Went st n) = reaches (made_in st) n

-- the part at c; `Q` says of the cursor past it where it is
abbrev pub Agree : List ℕ → (Cursor → Type 0) → Out → Account → Type 0
Agree s Q (refuses f) a = a ≡ stops f.number f.offset
Agree s Q (reaches m n) a = (a ≡ goes m (here s n)) × Q n

-- a run of parts goes to the parent's end
abbrev pub Full : Cursor → Cursor → Type 0
Full c n = n ≡ cursor c.end c.end

pub full_closed : (s : List ℕ) (c n : Cursor) (made : Made) (after : Left) → Full c n
    → closed (goes made (here s n)) after ≡ goes made after
full_closed s c n made after e = link_full s n made after (rw e refl)

-- an answer that agrees, and what is made of it
module _ (s : List ℕ) {A : Type 0} (P : A → Account → Type 0) (bad : Fault → A) (K : Account → Account)
    (strict : (f : Fault) → P (bad f) (K (stops f.number f.offset)))
    (Q : Cursor → Type 0) where
  pub by_checked : (made : Made) (good : ℕ → Cursor → A) (x : Result Checked Fault) (a : Account) → Agree s Q (checked_out made x) a
      → ((k : ℕ) (n : Cursor) → Q n → P (good k n) (K (goes made (here s n)))) → P (on_checked x bad good) (K a)
  by_checked made good (Err f) a q g = rw q (strict f)
  by_checked made good (Ok x) a q g = rw q.0 (g x.count x.next q.1)

  pub by_parts : (made : Made) (good : Parts → ℕ → Cursor → A) (x : Result (Parsed Parts) Fault) (a : Account)
      → Agree s Q (parts_out made x) a
      → ((p : Parts) (k : ℕ) (n : Cursor) → Q n → P (good p k n) (K (goes made (here s n))))
      → P (on_parts x bad good) (K a)
  by_parts made good (Err f) a q g = rw q (strict f)
  by_parts made good (Ok x) a q g = rw q.0 (g x.value x.count x.next q.1)

  pub by_mac : (made : Made) (good : Mac → ℕ → Cursor → A) (x : Result (Parsed Mac) Fault) (a : Account) → Agree s Q (mac_out made x) a
      → ((m : Mac) (k : ℕ) (n : Cursor) → Q n → P (good m k n) (K (goes made (here s n))))
      → P (on_mac x bad good) (K a)
  by_mac made good (Err f) a q g = rw q (strict f)
  by_mac made good (Ok x) a q g = rw q.0 (g x.value x.count x.next q.1)

  pub by_walked : (good : Rows → Cursor → A) (x : Walked) (a : Account) → Agree s Q (walked_out x) a
      → ((st : Rows) (n : Cursor) → Q n → P (good st n) (K (goes (made_in st) (here s n))))
      → P (on_walked x bad good) (K a)
  by_walked good (Refused f) a q g = rw q (strict f)
  by_walked good (Went st n) a q g = rw q.0 (g st n q.1)
