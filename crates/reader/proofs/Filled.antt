-- The memory after the whole file: the words of the reading's table.
use mathlib.Core.Path.{◌≡◌, refl, sym, ap, subst, ◌∙◌}
use mathlib.Core.List.{List, [], ◌++◌, append-nil}
use Prim.Native.Nat.{ℕ, ◌≤◌, ◌<◌}
use borrow.Author.Tests.{lt-ltb, le-ltb}
use lib.ListN.{length, drop, replicate}
use Rattle.der.specs.Element.{fault}
use Rattle.der.specs.Span.{Bytes}
use Rattle.der.specs.declared.Fault.{Fault}
use Rattle.buffer.specs.Numbers.{short_buffer}
use Rattle.pkcs12.specs.Table.{table_of}
use Rattle.pkcs12.specs.Accepted.{IsAccepted}
use Rattle.pkcs12.specs.Walk.{refused, read_file}
use Rattle.std.specs.Prelude.{Err, Ok, Result, ⊤}
use Rattle.pkcs12.specs.declared.answers.Reading.{Reading}
use Rattle.words.specs.Layout.{table_words}
use Rattle.words.specs.Stored.{words_of}
use Rattle.words.specs.InPlace.{finished, cleared}
use Rattle.words.specs.declared.Counts.{Counts}
use Rattle.load.specs.Holds.{rows_at}
use Rattle.load.proofs.Held.{counts_of, safe_count_lem, bag_count, attribute_count}
use Rattle.load.specs.Loaded.{table_in}
use Rattle.load.proofs.Finished.{finished_words, cleared_words}
use Rattle.load.specs.Wordable.{Wordable}
use Rattle.load.proofs.Theorems.{stored_is_loaded, accepted_wordable, empty_wordable, empty_is_zeros}
use Rattle.pkcs12.proofs.Theorems.{refused_table_empty}
use Rattle.pkcs12.specs.declared.table.Table.{Table}
use Rattle.reader.specs.Memory.{Summed, Into, into, read_into}
use Rattle.reader.specs.declared.Summary.{Summary}

-- the rows that are counted are as many
counts_back : (m : List ℕ) (k : Counts) → counts_of (rows_at m k) ≡ k
unfolding rows_at
counts_back m k =
    λ i. record {
      safes = safe_count_lem m k i;
      bags = bag_count m k i;
      attributes = attribute_count m k i;
      elements = k.elements;
    }

-- the walk left the memory m, of the length of m₀ before it, with the answer r
module _ (m₀ : List ℕ) (whole : length m₀ ≡ table_words) (m : List ℕ) (r : Result Summary Fault) (x : Reading)
    (z : Summed m r x) (kept : length m ≡ length m₀) where
  l : length m ≡ table_words
  l = kept ∙ whole

  module _ (f : Fault) (e : r ≡ Err f) where
    stopped : x ≡ refused f
    stopped = z.reading ∙ rw e

    pub refused_answer : Err f ≡ x.answer
    refused_answer = sym (ap (λ (y : Reading). y.answer) stopped)

    pub refused_words : (m' : List ℕ) → m' ≡ cleared m → m' ≡ words_of x.table
    refused_words m' p = p ∙ cleared_words m l ∙ sym (ap (λ (y : Reading). words_of y.table) stopped)

  module _ (v : Summary) (e : r ≡ Ok v) where
    went : x ≡ record { answer = (Ok tt); table = table_of (rows_at m v.counts) v.mac }
    went = z.reading ∙ rw e

    pub accepted_answer : Ok tt ≡ x.answer
    accepted_answer = sym (ap (λ (y : Reading). y.answer) went)

    pub accepted_words : (m' : List ℕ) → m' ≡ finished m v.counts v.mac → m' ≡ words_of x.table
    accepted_words m' p =
        p
        ∙ ap (λ (k : Counts). finished m k v.mac) (sym (counts_back m v.counts))
        ∙ finished_words m (rows_at m v.counts) v.mac (z.held v e) l
        ∙ sym (ap (λ (y : Reading). words_of y.table) went)

-- ---- the table that is loaded

table_fits : (f : List ℕ) → Bytes f → (x : Result ⊤ Fault) → (read_file f).answer ≡ x → Wordable (read_file f).table
table_fits f b (Ok tt) e = accepted_wordable f b e
table_fits f b (Err g) e = subst Wordable (sym (refused_table_empty f g e)) empty_wordable

-- what is loaded from the words of a reading's table, whatever is behind them, is that table
table_loaded : (f : List ℕ) → Bytes f → (rest : List ℕ)
    → table_in (words_of (read_file f).table ++ rest) ≡ (read_file f).table
table_loaded f b = stored_is_loaded (read_file f).table (table_fits f b (read_file f).answer refl)

pub read_value : (f : List ℕ) → Bytes f → (a : Result ⊤ Fault) → a ≡ (read_file f).answer → (m : List ℕ)
    → m ≡ words_of (read_file f).table
    → (t : Table) → t ≡ table_in m → record { answer = a; table = t } ≡ read_file f
read_value f b a p m q t h =
    let z : t ≡ (read_file f).table =
    h ∙ ap table_in (q ∙ sym (append-nil (words_of (read_file f).table))) ∙ table_loaded f b [] in
    λ i. record { answer = p i; table = z i }

-- ---- memory of any length

module _ (f m : List ℕ) where
  pub into_short : length m < table_words → read_into f m ≡ into (Err (fault short_buffer 0)) m
  unfolding read_into
  into_short h = rw (lt-ltb (length m) table_words h)

  module _ (h : table_words ≤ length m) where
    pub into_whole : read_into f m ≡ into (read_file f).answer (words_of (read_file f).table ++ drop table_words m)
    unfolding read_into
    into_whole = rw (le-ltb (length m) table_words h)

    pub into_accepted : IsAccepted f → read_into f m ≡ into (Ok tt) (words_of (read_file f).table ++ drop table_words m)
    into_accepted a =
        into_whole ∙ ap (λ (x : Result ⊤ Fault). into x (words_of (read_file f).table ++ drop table_words m)) a

    pub into_refused : (x : Fault) → (read_file f).answer ≡ Err x
        → read_into f m ≡ into (Err x) (replicate table_words 0 ++ drop table_words m)
    into_refused x e =
        let z : words_of (read_file f).table ≡ replicate table_words 0 =
        ap words_of (refused_table_empty f x e) ∙ empty_is_zeros in
        into_whole ∙ (λ i. into (e i) (z i ++ drop table_words m))

    pub into_loaded : Bytes f → table_in (read_into f m).memory ≡ (read_file f).table
    into_loaded b = ap (λ (x : Into). table_in x.memory) into_whole ∙ table_loaded f b (drop table_words m)
