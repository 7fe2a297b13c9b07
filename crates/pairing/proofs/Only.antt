-- The answers of pairing by the rows that match: the tests say what they should, and the list of
-- matches has them all, in order.
use mathlib.Core.Bool.{Bool, true, false}
use mathlib.Core.Logic.{◌↔◌, ◌⊎◌, inl, inr}
use mathlib.Core.Path.{◌≡◌, refl, sym, ap, ◌∙◌}
use mathlib.Core.List.{List, [], ◌∷◌}
use Prim.Native.Nat.{ℕ, zero, suc, ◌+◌, ◌<◌}
use native.Mathlib.Omega.{arith}
use borrow.Author.Tests.{leb-true, le-leb}
use lib.ListN.{length, get_or, get_or-eq_default}
use Rattle.der.proofs.Choices.{never, by_test, either}
use Rattle.buffer.specs.Numbers.{not_sound}
use Rattle.pkcs12.specs.Numbers.{no_row}
use Rattle.pairing.specs.Numbers.{no_certificate, more_certificates}
use Rattle.der.specs.Choice.{both}
use Rattle.pkcs12.specs.Checks.{all}
use Rattle.range.specs.Range.{lies, bytes_in}
use Rattle.pkcs12.specs.Sound.{Lies}
use Rattle.range.specs.declared.Range.{Range}
use Rattle.pkcs12.specs.declared.kind.BagKind.{BagKind}
use Rattle.pkcs12.specs.declared.kind.BagKind.TheVariants.{Key, ShroudedKey, Certificate, Crl, Secret, Nested}
use Rattle.range.proofs.SameBytes.{same_self, same_is}
use Rattle.pairing.specs.Pairs.{no_identity, is_key, is_certificate, id_lies, same_id, pairs_with}
use Rattle.pairing.specs.Pairs.{matching, refused_by, only_one, paired}
use Rattle.pairing.specs.Only.{Matches, IdsLie, IsKey, Answered, answer_row, answer_11}
use Rattle.pairing.specs.Only.{answer_12, answer_13, answer_14}
use Rattle.pairing.specs.declared.IdentityRow.{IdentityRow}
use Rattle.der.specs.declared.Fault.{Fault}
use Rattle.std.specs.Prelude.{Err, Ok, Result}

-- ---- what each test says

-- both tests pass
both_says : (t u : Bool) → both t u ≡ true → (t ≡ true) × (u ≡ true)
both_says true u e = (refl, e)
both_says false u e = never e

lies_says : (s : List ℕ) (r : Range) → lies s r ≡ true → Lies s r
unfolding lies
lies_says s r e = let p = both_says _ _ e in record { order = leb-true _ _ p.0; inside = leb-true _ _ p.1 }

lies_told : (s : List ℕ) (r : Range) → Lies s r → lies s r ≡ true
unfolding lies
lies_told s r l = rw (le-leb _ _ l.order, le-leb _ _ l.inside)

id_says : (s : List ℕ) (r : IdentityRow) → id_lies s r ≡ true → r.has_id ≡ true → Lies s r.id
unfolding id_lies
id_says s r e h = lies_says s r.id (rw h at e)

id_told : (s : List ℕ) (r : IdentityRow) → (r.has_id ≡ true → Lies s r.id) → id_lies s r ≡ true
unfolding id_lies
id_told s r f = by_test (λ u. u ≡ true) _ _ r.has_id (λ h. lies_told s r.id (f h)) (λ h. refl)

-- a test of each row, by its number
all_says : {A : Type 0} (test : A → Bool) (d : A) (xs : List A) → all test xs ≡ true → (j : ℕ) → j < length xs
    → test (get_or xs j d) ≡ true
unfolding all
all_says test d [] e j h = absurd (omega arith)
all_says test d (x ∷ xs) e zero h = (both_says (test x) (all test xs) e).0
all_says test d (x ∷ xs) e (suc j) h = all_says test d xs (both_says (test x) (all test xs) e).1 j (omega arith)

all_told : {A : Type 0} (test : A → Bool) (d : A) (xs : List A)
    → ((j : ℕ) → j < length xs → test (get_or xs j d) ≡ true) → all test xs ≡ true
unfolding all
all_told test d [] f = refl
all_told test d (x ∷ xs) f = rw (f 0 (omega arith)) (all_told test d xs (λ j h. f (suc j) (omega arith)))

ids_say : (s : List ℕ) (rows : List IdentityRow) → all (id_lies s) rows ≡ true → IdsLie s rows
ids_say s rows e j h = id_says s (get_or rows j no_identity) (all_says (id_lies s) no_identity rows e j h)

ids_told : (s : List ℕ) (rows : List IdentityRow) → IdsLie s rows → all (id_lies s) rows ≡ true
ids_told s rows f = all_told (id_lies s) no_identity rows (λ j h. id_told s (get_or rows j no_identity) (f j h))

-- where a test of each row fails: at one of them
all_fails : {A : Type 0} (test : A → Bool) (d : A) (xs : List A) → all test xs ≡ false
    → (j : ℕ) × (j < length xs) × (test (get_or xs j d) ≡ false)
unfolding all
all_fails test d [] e = never (sym e)
all_fails test d (x ∷ xs) e =
    by_test (λ u. u ≡ false → (j : ℕ) × (j < length (x ∷ xs)) × (test (get_or (x ∷ xs) j d) ≡ false)) _ _ (test x)
    (λ h k. let p = all_fails test d xs k in (suc p.0, omega (arith, p.1), p.2))
    (λ h k. (0, omega arith, h)) e

id_fails : (s : List ℕ) (r : IdentityRow) → id_lies s r ≡ false → (r.has_id ≡ true) × (Lies s r.id → ⊥)
unfolding id_lies
id_fails s r =
    by_test (λ u. u ≡ false → (r.has_id ≡ true) × (Lies s r.id → ⊥)) _ _ r.has_id
    (λ h e. (h, λ l. never (sym e ∙ lies_told s r.id l)))
    (λ h e. never (sym e))

-- kinds
key_says : (k : BagKind) → is_key k ≡ true → (k ≡ Key) ⊎ (k ≡ ShroudedKey)
unfolding is_key
key_says BagKind.None e = never e
key_says Key e = inl refl
key_says ShroudedKey e = inr refl
key_says Certificate e = never e
key_says Crl e = never e
key_says Secret e = never e
key_says Nested e = never e

key_told : (k : BagKind) → (k ≡ Key) ⊎ (k ≡ ShroudedKey) → is_key k ≡ true
unfolding is_key
key_told k (inl e) = rw e
key_told k (inr e) = rw e

certificate_says : (k : BagKind) → is_certificate k ≡ true → k ≡ Certificate
unfolding is_certificate
certificate_says BagKind.None e = never e
certificate_says Key e = never e
certificate_says ShroudedKey e = never e
certificate_says Certificate e = refl
certificate_says Crl e = never e
certificate_says Secret e = never e
certificate_says Nested e = never e

-- a key's row is there: what is taken for a row that isn't there is no key
row_says : (rows : List IdentityRow) (k : ℕ) → is_key (get_or rows k no_identity).kind ≡ true → IsKey rows k
unfolding is_key
row_says rows k e =
    either k (length rows) (λ h. (h, key_says (get_or rows k no_identity).kind e))
    (λ h. never (rw (get_or-eq_default rows no_identity {n = k} h) at e))

-- ---- the rows that pair with a key

-- what a list of numbers shows of those that P holds of
abbrev Listed : (ℕ → Type 0) → List ℕ → Type 0
Listed P [] = (j : ℕ) → P j → ⊥
Listed P (n ∷ []) = P n × ((i : ℕ) → P i → i ≡ n)
Listed P (n ∷ m ∷ ns) = (n < m) × P n × P m

module _ (s : List ℕ) (key : IdentityRow) where
  -- row j is one of these, where n come before them, and pairs with the key
  record Pairing (n : ℕ) (rows : List IdentityRow) (j : ℕ) : Type 0 where
    index : ℕ
    number : j ≡ n + index
    there : index < length rows
    pairs : pairs_with s key (get_or rows index no_identity) ≡ true

  pairing_first : (n : ℕ) (r : IdentityRow) (rs : List IdentityRow) → pairs_with s key r ≡ true → Pairing n (r ∷ rs) n
  pairing_first n r rs e = record { index = 0; number = omega arith; there = omega arith; pairs = e }

  pairing_next : (n : ℕ) (r : IdentityRow) (rs : List IdentityRow) (j : ℕ) → Pairing (n + 1) rs j → Pairing n (r ∷ rs) j
  pairing_next n r rs j p = record {
    index = suc p.index;
    number = omega (arith, p.number);
    there = omega (arith, p.there);
    pairs = p.pairs;
  }

  -- the first row, or one behind it
  pairing_of : {P : Type 0} (n : ℕ) (r : IdentityRow) (rs : List IdentityRow) (j : ℕ) → Pairing n (r ∷ rs) j
      → (j ≡ n → pairs_with s key r ≡ true → P) → (Pairing (n + 1) rs j → P) → P
  pairing_of {P} n r rs j p f g = go p.index p.number p.there p.pairs
    where
      go : (i : ℕ) → j ≡ n + i → i < length (r ∷ rs) → pairs_with s key (get_or (r ∷ rs) i no_identity) ≡ true → P
      go zero e h q = f (omega arith) q
      go (suc i) e h q = g (record { index = i; number = omega arith; there = omega arith; pairs = q })

  module _ (n : ℕ) (r : IdentityRow) (rs : List IdentityRow) where
    later : (m : ℕ) → Pairing (n + 1) rs m → n < m
    later m p = omega (arith, p.number)

    listed_first : (ms : List ℕ) → pairs_with s key r ≡ true → Listed (Pairing (n + 1) rs) ms
        → Listed (Pairing n (r ∷ rs)) (n ∷ ms)
    listed_first [] e l = (pairing_first n r rs e, λ i p. pairing_of n r rs i p (λ h q. h) (λ q. absurd (l i q)))
    listed_first (m ∷ []) e l = (later m l.0, pairing_first n r rs e, pairing_next n r rs m l.0)
    listed_first (m ∷ o ∷ ms) e l = (later m l.1, pairing_first n r rs e, pairing_next n r rs m l.1)

    listed_next : (ms : List ℕ) → pairs_with s key r ≡ false → Listed (Pairing (n + 1) rs) ms
        → Listed (Pairing n (r ∷ rs)) ms
    listed_next [] e l = λ j p. pairing_of n r rs j p (λ h q. never (sym e ∙ q)) (l j)
    listed_next (m ∷ []) e l =
        (pairing_next n r rs m l.0, λ i p. pairing_of n r rs i p (λ h q. never (sym e ∙ q)) (l.1 i))
    listed_next (m ∷ o ∷ ms) e l = (l.0, pairing_next n r rs m l.1, pairing_next n r rs o l.2)

  matched : (n : ℕ) (rows : List IdentityRow) → Listed (Pairing n rows) (matching s key n rows)
  unfolding matching
  matched n [] = λ j p. omega (arith, p.there)
  matched n (r ∷ rs) =
      by_test (Listed (Pairing n (r ∷ rs))) _ _ (pairs_with s key r)
      (λ e. listed_first n r rs (matching s key (n + 1) rs) e (matched (n + 1) rs))
      (λ e. listed_next n r rs (matching s key (n + 1) rs) e (matched (n + 1) rs))

module _ (s : List ℕ) (rows : List IdentityRow) (k : ℕ) where
  matches_of : (j : ℕ) → Pairing s (get_or rows k no_identity) 0 rows j → Matches s rows k j
  unfolding pairs_with same_id
  matches_of j p =
      let h : j ≡ p.index = omega (arith, p.number) in
      let c = both_says _ _ p.pairs in
      let i = both_says _ _ c.1 in
      let o = both_says _ _ i.1 in
      rw h record {
        there = p.there;
        certificate = certificate_says _ c.0;
        key_id = i.0;
        row_id = o.0;
        equal = same_is _ _ o.1;
      }

  of_matches : (j : ℕ) → Matches s rows k j → Pairing s (get_or rows k no_identity) 0 rows j
  unfolding pairs_with same_id is_certificate
  of_matches j m =
      record {
        index = j;
        number = omega arith;
        there = m.there;
        pairs = rw (m.certificate, m.key_id, m.row_id, m.equal) (same_self _);
      }

  -- ---- the answers

  -- what holds of each answer, with what it says, holds of the one that is returned
  pub by_answer : (P : Result ℕ Fault → Type 0)
      → ((IdsLie s rows → ⊥) → P (refused_by not_sound))
      → (IdsLie s rows → (IsKey rows k → ⊥) → P (refused_by no_row))
      → (IdsLie s rows → IsKey rows k → ((j : ℕ) → Matches s rows k j → ⊥) → P (refused_by no_certificate))
      → (IdsLie s rows → IsKey rows k → (j : ℕ) → Matches s rows k j → ((i : ℕ) → Matches s rows k i → i ≡ j) → P (Ok j))
      → (IdsLie s rows → IsKey rows k → (i j : ℕ) → i < j → Matches s rows k i → Matches s rows k j → P (refused_by more_certificates))
      → P (paired s rows k)
  unfolding paired only_one
  by_answer P sound key none one two =
      by_test P _ _ (all (id_lies s) rows)
      (λ a.
      by_test P _ _ (is_key (get_or rows k no_identity).kind)
      (λ b. go (ids_say s rows a) (row_says rows k b) (matching s (get_or rows k no_identity) 0 rows)
      (matched s (get_or rows k no_identity) 0 rows))
      (λ b. key (ids_say s rows a) (λ q. never (sym b ∙ key_told _ q.1))))
      (λ a. sound (λ l. never (sym a ∙ ids_told s rows l)))
    where
      go : IdsLie s rows → IsKey rows k → (ms : List ℕ)
          → Listed (Pairing s (get_or rows k no_identity) 0 rows) ms → P (only_one ms)
      go a b [] l = none a b (λ j m. l j (of_matches j m))
      go a b (j ∷ []) l = one a b j (matches_of j l.0) (λ i m. l.1 i (of_matches i m))
      go a b (i ∷ j ∷ ms) l = two a b i j l.0 (matches_of i l.1) (matches_of j l.2)

-- answers are told apart by their numbers; a row has none
abbrev number_of : Result ℕ Fault → ℕ
number_of (Ok j) = 0
number_of (Err f) = f.number

other : {A : Type 0} (x y : Result ℕ Fault) → (number_of x ≡ number_of y → ⊥) → x ≡ y → A
other x y h e = absurd (h (ap number_of e))

-- no two rows where there is one alone
alone : (P : ℕ → Type 0) (i j n : ℕ) → i < j → P i → P j → ((m : ℕ) → P m → m ≡ n) → ⊥
alone P i j n h p q f = omega (arith, f i p, f j q)

module _ (s : List ℕ) (rows : List IdentityRow) (k : ℕ) where
  pub only : (j : ℕ)
      → paired s rows k ≡ Ok j
      ↔ (IdsLie s rows × IsKey rows k × Matches s rows k j × ((i : ℕ) → Matches s rows k i → i ≡ j))
  only j = (
    by_answer s rows k (λ x. x ≡ Ok j
        → IdsLie s rows × IsKey rows k × Matches s rows k j × ((i : ℕ) → Matches s rows k i → i ≡ j))
        (λ a. other _ _ (λ z. omega arith)) (λ a b. other _ _ (λ z. omega arith))
        (λ a b c. other _ _ (λ z. omega arith))
        (λ a b i m u e. let z : i ≡ j = cc in (a, b, rw z at m, rw z at u))
        (λ a b i m l p q. other _ _ (λ z. omega arith)),
    λ f.
        by_answer s rows k (λ x. x ≡ Ok j)
        (λ a. absurd (a f.0)) (λ a b. absurd (b f.1)) (λ a b c. absurd (c j f.2))
        (λ a b i m u. ap Ok (f.3 i m))
        (λ a b i m l p q. absurd (alone (Matches s rows k) i m j l p q f.3)),
  )

  pub refused_13 : paired s rows k ≡ refused_by no_certificate
      ↔ (IdsLie s rows × IsKey rows k × ((j : ℕ) → Matches s rows k j → ⊥))
  refused_13 = (
    by_answer s rows k
        (λ x. x ≡ refused_by no_certificate → IdsLie s rows × IsKey rows k × ((j : ℕ) → Matches s rows k j → ⊥))
        (λ a. other _ _ (λ z. omega arith)) (λ a b. other _ _ (λ z. omega arith)) (λ a b c e. (a, b, c))
        (λ a b i m u. other _ _ (λ z. omega arith)) (λ a b i m l p q. other _ _ (λ z. omega arith)),
    λ f.
        by_answer s rows k (λ x. x ≡ refused_by no_certificate)
        (λ a. absurd (a f.0)) (λ a b. absurd (b f.1)) (λ a b c. refl)
        (λ a b i m u. absurd (f.2 i m)) (λ a b i m l p q. absurd (f.2 i p)),
  )

  pub refused_14 : paired s rows k ≡ refused_by more_certificates
      ↔ (IdsLie s rows × IsKey rows k × ((i : ℕ) × (j : ℕ) × (i < j) × Matches s rows k i × Matches s rows k j))
  refused_14 = (
    by_answer s rows k
        (λ x. x ≡ refused_by more_certificates → IdsLie s rows × IsKey rows k × ((i : ℕ) × (j : ℕ) × (i < j) × Matches s rows k i × Matches s rows k j))
        (λ a. other _ _ (λ z. omega arith)) (λ a b. other _ _ (λ z. omega arith)) (λ a b c. other _ _ (λ z. omega arith))
        (λ a b i m u. other _ _ (λ z. omega arith)) (λ a b i m l p q e. (a, b, (i, m, l, p, q))),
    λ f.
        by_answer s rows k (λ x. x ≡ refused_by more_certificates)
        (λ a. absurd (a f.0)) (λ a b. absurd (b f.1)) (λ a b c. absurd (c f.2.0 f.2.3))
        (λ a b i m u. absurd (alone (Matches s rows k) _ _ i f.2.2 f.2.3 f.2.4 u)) (λ a b i m l p q. refl),
  )

  pub refused_12 : paired s rows k ≡ refused_by no_row ↔ (IdsLie s rows × (IsKey rows k → ⊥))
  refused_12 = (
    by_answer s rows k (λ x. x ≡ refused_by no_row → IdsLie s rows × (IsKey rows k → ⊥))
        (λ a. other _ _ (λ z. omega arith)) (λ a b e. (a, b)) (λ a b c. other _ _ (λ z. omega arith))
        (λ a b i m u. other _ _ (λ z. omega arith)) (λ a b i m l p q. other _ _ (λ z. omega arith)),
    λ f.
        by_answer s rows k (λ x. x ≡ refused_by no_row)
        (λ a. absurd (a f.0)) (λ a b. refl) (λ a b c. absurd (f.1 b)) (λ a b i m u. absurd (f.1 b))
        (λ a b i m l p q. absurd (f.1 b)),
  )

  pub refused_11 : paired s rows k ≡ refused_by not_sound ↔ (IdsLie s rows → ⊥)
  refused_11 = (
    by_answer s rows k (λ x. x ≡ refused_by not_sound → IdsLie s rows → ⊥)
        (λ a e. a) (λ a b. other _ _ (λ z. omega arith)) (λ a b c. other _ _ (λ z. omega arith))
        (λ a b i m u. other _ _ (λ z. omega arith)) (λ a b i m l p q. other _ _ (λ z. omega arith)),
    λ f.
        by_answer s rows k (λ x. x ≡ refused_by not_sound)
        (λ a. refl) (λ a b. absurd (f a)) (λ a b c. absurd (f a)) (λ a b i m u. absurd (f a))
        (λ a b i m l p q. absurd (f a)),
  )

  -- the row whose id doesn't lie in the bytes
  pub where_11 : paired s rows k ≡ refused_by not_sound
      → (j : ℕ) × (j < length rows) × ((get_or rows j no_identity).has_id ≡ true)
      × (Lies s (get_or rows j no_identity).id → ⊥)
  where_11 e = go (all (id_lies s) rows) refl
    where
      go : (u : Bool) → all (id_lies s) rows ≡ u → (j : ℕ) × (j < length rows)
          × ((get_or rows j no_identity).has_id ≡ true) × (Lies s (get_or rows j no_identity).id → ⊥)
      go true a = absurd (refused_11.0 e (ids_say s rows a))
      go false a =
          let p = all_fails (id_lies s) no_identity rows a in
          let q = id_fails s (get_or rows p.0 no_identity) p.2 in
          (p.0, p.1, q.0, q.1)

  pub key_without_id : IdsLie s rows → IsKey rows k → (get_or rows k no_identity).has_id ≡ false
      → paired s rows k ≡ refused_by no_certificate
  key_without_id a b h = refused_13.1 (a, b, λ j m. never (sym h ∙ m.key_id))

  pub answers : Answered (paired s rows k)
  answers =
      by_answer s rows k Answered (λ a. answer_11) (λ a b. answer_12) (λ a b c. answer_13) (λ a b j m u. answer_row j)
      (λ a b i j l p q. answer_14)

-- ---- ids of length 0

both_empty : (x y : List ℕ) → length x ≡ 0 → length y ≡ 0 → x ≡ y
both_empty [] [] p q = refl
both_empty [] (b ∷ y) p q = absurd (omega arith)
both_empty (a ∷ x) y p q = absurd (omega arith)

pub empty_ids : (s : List ℕ) (rows : List IdentityRow) (k j : ℕ) → j < length rows
    → (get_or rows j no_identity).kind ≡ Certificate
    → (get_or rows k no_identity).has_id ≡ true → (get_or rows j no_identity).has_id ≡ true
    → length (bytes_in s (get_or rows k no_identity).id) ≡ 0
    → length (bytes_in s (get_or rows j no_identity).id) ≡ 0 → Matches s rows k j
empty_ids s rows k j there kind key_id row_id p q =
    record { there = there; certificate = kind; key_id = key_id; row_id = row_id; equal = both_empty _ _ p q }
