-- Safes and the file: the walk beside the account.
use mathlib.Core.Bool.{true, false}
use mathlib.Core.Path.{◌≡◌, refl, sym}
use mathlib.Core.List.{List, []}
use Prim.Native.Nat.{ℕ}
use native.Mathlib.Omega.{arith}
use lib.Dec.{leb, ltb, eqb}
use lib.ListN.{length}
use lib.Seq.{take-length}
use Rattle.std.specs.Prelude.{if◌then◌else◌}
use Rattle.der.specs.Element.{whole_of, finish_at}
use Rattle.der.specs.Content.{bytes_of}
use Rattle.der.specs.Octets.{number}
use Rattle.der.specs.Opaque.{on_checked}
use Rattle.der.specs.declared.Cursor.{Cursor}
use Rattle.range.specs.Bytes.{same_bytes}
use Rattle.pkcs12.specs.Identifiers as identifiers
use Rattle.pkcs12.specs.Table.{Rows, no_parts, safe_row}
use Rattle.pkcs12.specs.Walk.{Walked, Refused, Went, on_walked, run, owner, safe_contents_at, data_at, plain_at}
use Rattle.pkcs12.specs.Walk.{sealed_safe_at, safe_value_at, safe_at, start_rows, safes_at, outer_value_at, outer_at}
use Rattle.pkcs12.specs.Walk.{encrypted_at, mac_at, refused, body_at, alone, pfx_at, read_file}
use Rattle.pkcs12.specs.declared.kind.SafeKind.TheVariants.{Plain}
use Rattle.der.specs.declared.Fault.{Fault}
use Rattle.std.specs.Prelude.{Err, None, Ok, Result, ⊤}
use Rattle.pkcs12.specs.declared.answers.Reading.{Reading}
use Rattle.refusals.specs.Element.{Left, left, Made, Account, stops, goes, Rule, closed, allowed, onwards}
use Rattle.refusals.specs.Element.{◌before◌, front_body, each, served, constructed}
use Rattle.refusals.specs.Bodies.{is_identifier, is_integer, outer_type, safe_type, version}
use Rattle.refusals.specs.Grammar.{encrypted_data, more_safes, safe_contents, wrapped, safe_value, safe, outer}
use Rattle.refusals.specs.Grammar.{mac_data, pfx, none_made, account_of}
use Rattle.refusals.proofs.Headers.{Lies}
use Rattle.refusals.proofs.Links.{here, Past, link_test, link_expect, link_identifier, link_integer}
use Rattle.refusals.proofs.Links.{link_finish, link_served}
use Rattle.refusals.proofs.Agree.{Agree, Full, full_closed, made_in, walked_out, by_parts, by_mac, by_walked}
use Rattle.refusals.proofs.Parts.{encrypted_agrees}
use Rattle.refusals.proofs.Mac.{mac_agrees}
use Rattle.refusals.proofs.Bags.{safe_made, rows_agree, contents_agree}

-- ---- what is judged of a body that keeps the rule, and of one that doesn't

module _ (x : List ℕ) where
  outer_type_lem : is_identifier x ≡ true → outer_type x ≡ (if same_bytes x identifiers.data_type then 0 else
      (if same_bytes x identifiers.signed_type then 7 else 5))
  unfolding outer_type identifiers.data_type identifiers.signed_type
  outer_type_lem e = rw e refl

  no_outer : is_identifier x ≡ false → outer_type x ≡ 5
  unfolding outer_type
  no_outer e = rw e refl

  safe_type_lem : is_identifier x ≡ true
      → safe_type x ≡ (if same_bytes x identifiers.data_type then 0 else
      (if same_bytes x identifiers.encrypted_type then 0 else (if same_bytes x identifiers.enveloped_type then 7 else 5)))
  unfolding safe_type identifiers.data_type identifiers.encrypted_type identifiers.enveloped_type
  safe_type_lem e = rw e refl

  no_safe_lem : is_identifier x ≡ false → safe_type x ≡ 5
  unfolding safe_type
  no_safe_lem e = rw e refl

  plain_value : same_bytes x identifiers.data_type ≡ true → safe_value x ≡ wrapped (safe_contents 8)
  unfolding safe_value identifiers.data_type
  plain_value e = rw e refl

  sealed_value : same_bytes x identifiers.data_type ≡ false → safe_value x ≡ constructed 0xA0 encrypted_data
  unfolding safe_value identifiers.data_type
  sealed_value e = rw e refl

  version_is : is_integer x ≡ true → version x ≡ (if eqb (number x) 3 then 0 else 5)
  unfolding version
  version_is e = rw e refl

  no_version : is_integer x ≡ false → version x ≡ 5
  unfolding version
  no_version e = rw e refl

module _ (s : List ℕ) where
  -- an OCTET STRING in [0] whose body is one part and nothing more
  data_agrees : (inner : Cursor → Walked) (rule : Rule) (made : Made)
      → ((c : Cursor) → Lies s c → Agree s (Past s c) (walked_out (inner c)) (rule made (here s c)))
      → (c : Cursor) → Lies s c → Agree s (Past s c) (walked_out (data_at inner s c)) (wrapped rule made (here s c))
  unfolding data_at
  data_agrees inner rule made one c h =
      link_expect s Good Refused (λ a. a) (λ f. refl) c h made 0xA0 _ _ _
      (λ v e d.
      link_expect s Good Refused (λ a. closed a (here s e)) (λ f. refl) v d.body made 0x04 _ _ _
      (λ o f g.
      by_walked s Good Refused (λ a. closed (closed a (here s f)) (here s e)) (λ f. refl) (Past s o) _ (inner o) _
      (one o g.body)
      (λ st n p.
      link_finish s Good Refused (λ a. closed a (here s e)) (λ f. refl) n p.lies (made_in st) (here s f) _
      (λ z. link_finish s Good Refused (λ a. a) (λ f. refl) f g.past.lies (made_in st) (here s e) _
      (λ y. (refl, d.past))))))
    where
      Good : Walked → Account → Type 0
      Good x a = Agree s (Past s c) (walked_out x) a

  plain_agrees : (st : Rows) (c : Cursor) → Lies s c → Agree s (Past s c) (walked_out (plain_at s st c))
      (wrapped (safe_contents 8) (more_safes (made_in st)) (here s c))
  unfolding plain_at
  plain_agrees st c h =
      data_agrees (safe_contents_at 8 s (owner (length st.safes) None) _) (safe_contents 8)
      (more_safes (made_in st))
      (λ o k. rw (sym (safe_made st (safe_row Plain no_parts) 4)) (contents_agree s 8 _ _ o k)) c h

  sealed_safe_agrees : (st : Rows) (c : Cursor) → Lies s c
      → Agree s (Past s c) (walked_out (sealed_safe_at s st c))
      (constructed 0xA0 encrypted_data (more_safes (made_in st)) (here s c))
  unfolding sealed_safe_at
  sealed_safe_agrees st c h =
      link_expect s Good Refused (λ a. a) (λ f. refl) c h (more_safes (made_in st)) 0xA0 _ _ _
      (λ v e d.
      by_parts s Good Refused (λ a. closed a (here s e)) (λ f. refl) (Past s v) (more_safes (made_in st)) _
      (encrypted_at s v) _ (encrypted_agrees s (more_safes (made_in st)) v d.body)
      (λ p k f q.
      link_finish s Good Refused (λ a. a) (λ f. refl) f q.lies (more_safes (made_in st)) (here s e) _
      (λ z. (rw (safe_made st _ _) refl, d.past))))
    where
      Good : Walked → Account → Type 0
      Good x a = Agree s (Past s c) (walked_out x) a

  safe_agrees : (st : Rows) (c : Cursor) → Lies s c → Agree s (Past s c) (walked_out (safe_at s st c))
      (safe (made_in st) (here s c))
  unfolding safe_at safe safe_value_at
  safe_agrees st c h =
      link_expect s Good Refused (λ a. a) (λ f. refl) c h (made_in st) 0x30 _ _ _
      (λ b n d.
      link_test Good (λ x. x) (λ a. a) (leb 16 (length st.safes)) _ _ _ _ (λ u. refl)
      (λ u.
      link_identifier s Good Refused (λ a. closed (onwards a (safe_value (front_body (bytes_of s b)))) (here s n))
      (λ f. refl) b d.body (more_safes (made_in st)) safe_type no_safe_lem _
      (λ i m e v.
      rw (e.front, safe_type_lem (bytes_of s i) v) (by_type b n d.past (bytes_of s i) m e.past.lies))))
    where
      Good : Walked → Account → Type 0
      Good x a = Agree s (Past s c) (walked_out x) a

      ends : Cursor → Rows → Cursor → Walked
      ends n st' e = on_checked (finish_at e) Refused (λ z g. Went st' n)

      due : List ℕ → Cursor → Cursor → Cursor → ℕ → Account
      due x b m n k = closed (onwards (allowed k b.at (more_safes (made_in st)) (here s m)) (safe_value x)) (here s n)

      then_ends : (n : Cursor) → Past s c n → (m : Cursor) (x : Walked) (a : Account)
          → Agree s (Past s m) (walked_out x) a
          → Good (on_walked x Refused (ends n)) (closed a (here s n))
      then_ends n past m x a q =
          by_walked s Good Refused (λ a. closed a (here s n)) (λ f. refl) (Past s m) (ends n) x a q
          (λ st' e p. link_finish s Good Refused (λ a. a) (λ f. refl) e p.lies (made_in st') (here s n) _
          (λ z. (refl, past)))

      by_type : (b n : Cursor) → Past s c n → (x : List ℕ) (m : Cursor) → Lies s m
          → Good (on_walked (safe_value_at s x b.at st m) Refused (ends n))
          (due x b m n (if same_bytes x identifiers.data_type then 0 else
          (if same_bytes x identifiers.encrypted_type then 0 else
          (if same_bytes x identifiers.enveloped_type then 7 else 5))))
      by_type b n past x m lies =
          link_test Good F (due x b m n) (same_bytes x identifiers.data_type) _ _ _ _
          (λ u. rw (plain_value x u) (then_ends n past m (plain_at s st m) _ (plain_agrees st m lies)))
          (λ u.
          link_test Good F (due x b m n) (same_bytes x identifiers.encrypted_type) _ _ _ _
          (λ v. rw (sealed_value x u) (then_ends n past m (sealed_safe_at s st m) _ (sealed_safe_agrees st m lies)))
          (λ v. link_test Good F (due x b m n) (same_bytes x identifiers.enveloped_type) _ _ _ _ (λ w. refl)
          (λ w. refl)))
        where
          F : Walked → Walked
          F y = on_walked y Refused (ends n)

  safes_agree : (c : Cursor) → Lies s c → Agree s (Past s c) (walked_out (safes_at s c))
      (constructed 0x30 (each safe) none_made (here s c))
  unfolding safes_at
  safes_agree c h =
      link_expect s Good Refused (λ a. a) (λ f. refl) c h none_made 0x30 _ _ _
      (λ b n d.
      by_walked s Good Refused (λ a. closed a (here s n)) (λ f. refl) (Full b) _ (run (safe_at s) (start_rows c) b) _
      (rows_agree s (safe_at s) safe safe_agrees (start_rows c) b d.body)
      (λ st f p. (full_closed s b f (made_in st) (here s n) p, d.past)))
    where
      Good : Walked → Account → Type 0
      Good x a = Agree s (Past s c) (walked_out x) a

  pub outer_agrees : (c : Cursor) → Lies s c → Agree s (Past s c) (walked_out (outer_at s c))
      (outer none_made (here s c))
  unfolding outer_at outer outer_value_at
  outer_agrees c h =
      link_expect s Good Refused (λ a. a) (λ f. refl) c h none_made 0x30 _ _ _
      (λ b n d.
      link_identifier s Good Refused (λ a. closed (onwards a (wrapped (constructed 0x30 (each safe)))) (here s n))
      (λ f. refl) b d.body none_made outer_type no_outer _
      (λ i m e v.
      rw (outer_type_lem (bytes_of s i) v)
      (link_test Good (F n) (due b m n) (same_bytes (bytes_of s i) identifiers.data_type) _ _ _ _
      (λ u.
      by_walked s Good Refused (λ a. closed a (here s n)) (λ f. refl) (Past s m) _ (data_at (safes_at s) s m) _
      (data_agrees (safes_at s) (constructed 0x30 (each safe)) none_made safes_agree m e.past.lies)
      (λ st g p. link_finish s Good Refused (λ a. a) (λ f. refl) g p.lies (made_in st) (here s n) _
      (λ z. (refl, d.past))))
      (λ u. link_test Good (F n) (due b m n) (same_bytes (bytes_of s i) identifiers.signed_type) _ _ _ _ (λ w. refl)
      (λ w. refl)))))
    where
      Good : Walked → Account → Type 0
      Good x a = Agree s (Past s c) (walked_out x) a

      F : Cursor → Walked → Walked
      F n y = on_walked y Refused (λ st e. on_checked (finish_at e) Refused (λ z g. Went st n))

      due : Cursor → Cursor → Cursor → ℕ → Account
      due b m n k = closed (onwards (allowed k b.at none_made (here s m)) (wrapped (constructed 0x30 (each safe))))
          (here s n)

  -- ---- the file

  -- what a reading answers and what the account comes to agree
  abbrev pub Agreed : Result ⊤ Fault → Account → Type 0
  Agreed (Err f) a = a ≡ stops f.number f.offset
  Agreed (Ok tt) a = (made : Made) × (a ≡ goes made (left (length s) []))

  abbrev over : Left
  over = left (length s) []

  -- the parts of a PFX behind its version, the end of its body, and the end of the file
  body_agrees : (c : Cursor) → Lies s c → (n : Cursor) → Lies s n
      → Agreed (alone n (body_at s c)).answer (closed (closed ((outer before served mac_data) none_made (here s c))
      (here s n)) over)
  unfolding body_at
  body_agrees c h n k =
      by_walked s Good refused (λ a. closed (onwards a (served mac_data)) (here s n)) (λ f. refl) (Past s c) _
      (outer_at s c) _ (outer_agrees c h)
      (λ st e p.
      link_served s Good refused (λ a. closed a (here s n)) (λ f. refl) e p.lies (made_in st) mac_data _
      (λ l.
      by_mac s Good refused (λ a. closed a (here s n)) (λ f. refl) (Past s e) (made_in st) _ (mac_at s e) _
      (mac_agrees s (made_in st) e p.lies)
      (λ x j f q.
      link_finish s Good refused (λ a. a) (λ f. refl) f q.lies (made_in st) (here s n) _
      (λ z. link_finish s (λ r a. Agreed r.answer a) refused (λ a. a) (λ f. refl) n k (made_in st) over _
      (λ y. (made_in st, refl))))))
    where
      Good : Reading → Account → Type 0
      Good r a = Agreed (alone n r).answer (closed a over)

  pfx_agrees : (c : Cursor) → Lies s c → Agreed (pfx_at s c).answer (closed (pfx none_made (here s c)) over)
  unfolding pfx_at pfx
  pfx_agrees c h =
      link_expect s Good refused (λ a. closed a over) (λ f. refl) c h none_made 0x30 _ _ _
      (λ b n d.
      link_integer s Good refused (λ a. closed (closed (onwards a (outer before served mac_data)) (here s n)) over)
      (λ f. refl) b d.body none_made version no_version _
      (λ i m e v.
      rw (version_is (bytes_of s i) v)
      (link_test Good (λ x. x) (λ k. closed (closed (onwards (allowed k b.at none_made (here s m))
      (outer before served mac_data)) (here s n)) over)
      (eqb (number (bytes_of s i)) 3) _ _ _ _
      (λ u. body_agrees m e.past.lies n d.past.lies)
      (λ u. refl))))
    where
      Good : Reading → Account → Type 0
      Good r a = Agreed r.answer a

  pub file_agrees : Agreed (read_file s).answer (account_of s)
  unfolding read_file account_of
  file_agrees =
      link_test (λ (r : Reading) a. Agreed r.answer a) (λ x. x) (λ a. a) (ltb 65535 (length s)) _ _ _ _ (λ u. refl)
      (λ u. rw (take-length s) at (pfx_agrees (whole_of s) (record { order = omega arith; inside = omega arith })))
