-- Attributes that were accepted, in a list of bytes: the value, by the rules, where it is, and the
-- rows that were added. And the one law of a run.
use mathlib.Core.Path.{◌≡◌, refl, sym, ◌∙◌}
use mathlib.Core.List.{List, [], ◌∷◌, ◌++◌}
use Prim.Native.Nat.{ℕ, ◌+◌, ◌-◌, ◌≤◌, ◌<◌}
use native.Mathlib.Omega.{arith}
use lib.Dec.{ltb}
use lib.ListN.{length}
use borrow.Author.Tests.{lt-ltb, le-ltb}
use Rattle.der.specs.Numbers.{opaque_levels, sequence_tag, set_tag}
use Rattle.der.specs.Element.{cursor, tag_at}
use Rattle.der.specs.Content.{bytes_of}
use Rattle.der.specs.Octets.{tlv, identifier}
use Rattle.der.specs.Span.{Span, Bytes}
use Rattle.der.specs.Tree.{encodes}
use Rattle.der.specs.Follows.{HeaderIs, IdentifierIs, RunIs}
use Rattle.der.specs.declared.Fault.{Fault}
use Rattle.der.specs.declared.Cursor.{Cursor}
use Rattle.der.proofs.Choices.{by_le, by_eq}
use Rattle.der.proofs.Many.{many_holds}
use Rattle.der.proofs.Octets.{tlv_long}
use Rattle.der.proofs.Spans.{span_empty, span_join, span_to}
use Rattle.pkcs12.specs.Numbers.{attribute_rows}
use Rattle.pkcs12.specs.Syntax.{Attribute, Set, absent, present}
use Rattle.pkcs12.specs.Encode.{attribute_bytes, attributes_bytes, set_bytes}
use Rattle.pkcs12.specs.Valid.{ValidAttribute, ValidAttributes, ValidSet}
use Rattle.pkcs12.specs.Elements.{opaque_count, attributes_count, set_count}
use Rattle.pkcs12.specs.Values.{stands}
use Rattle.pkcs12.specs.Table.{attribute_row, Rows}
use Rattle.pkcs12.specs.Walk.{range_of, Walked, Refused, Went, on_walked, go_on, run, counting, add_attribute}
use Rattle.pkcs12.specs.Walk.{attribute_at, set_at}
use Rattle.pkcs12.specs.Laid.{AttributeLaid, AttributesLaid, no_attribute_laid, one_attribute, SetLaid, no_set}
use Rattle.pkcs12.specs.Laid.{one_set}
use Rattle.range.specs.declared.Range.{Range}
use Rattle.pkcs12.specs.declared.row.AttributeRow.{AttributeRow}
use Rattle.pkcs12.proofs.Parents.{by_expect, by_identifier, by_elements, by_finish, In, in_body, finished}
use Rattle.pkcs12.proofs.Parents.{laid_to, closed, closed_identifier, opaques_count}
use Rattle.pkcs12.proofs.Grown.{Grown, grown_counting, grown_none, grown_then, grown_as, grown_attribute}

-- what holds of the rows that a part returned; nothing has to hold of a refusal
abbrev pub OfWalked : (Rows → Cursor → Type 0) → Walked → Type 0
OfWalked Q (Refused f) = Unit {0}
OfWalked Q (Went st n) = Q st n

pub by_walked : {A : Type 0} (P : A → Type 0) (bad : Fault → A) → ((f : Fault) → P (bad f)) → (Q : Rows → Cursor → Type 0) (good : Rows → Cursor → A)
    → ((st : Rows) (n : Cursor) → Q st n → P (good st n)) → (x : Walked) → OfWalked Q x → P (on_walked x bad good)
by_walked P bad r Q good g (Refused f) q = r f
by_walked P bad r Q good g (Went st n) q = g st n q

-- What holds at the end of a body, and passes from what follows a step to the step, holds of the
-- run from its start.
pub run_of : (par : Range) (step : Rows → Cursor → Walked) (S : Rows → Cursor → Rows → Cursor → Type 0) (R : Rows → ℕ → Rows → Type 0)
    → ((st : Rows) (c : Cursor) → In par c → OfWalked (S st c) (step st c))
    → ((st : Rows) (c : Cursor) (st' : Rows) (n : Cursor) → S st c st' n → In par n × (c.at < n.at))
    → ((st : Rows) → R st par.end st)
    → ((st : Rows) (c : Cursor) (st' : Rows) (n : Cursor) (st'' : Rows) → In par c → S st c st' n → R st' n.at st'' → R st c.at st'')
    → (st : Rows) (c : Cursor) → In par c → OfWalked (λ st' n. R st c.at st') (run step st c)
unfolding run
run_of par step S R each moves ends more st c i =
    many_holds go_on (λ st at. Went st (cursor at c.end)) (λ st at. step st (cursor at c.end)) c.end
    (λ st at x. OfWalked (λ st' n. R st at st') x) (λ st at. In par (cursor at c.end))
    (λ st at h j. let z : at ≡ par.end = omega (arith, j.within, j.end) in rw z (ends st))
    (λ st at h j k go. turn st (cursor at c.end) j k go (step st (cursor at c.end)) (each st (cursor at c.end) j))
    (c.end - c.at) st c.at (omega arith) i
  where
    turn : (st : Rows) (d : Cursor) → In par d → (k : Rows → ℕ → Walked)
        → ((st' : Rows) (at' : ℕ) → d.at < at' → In par (cursor at' c.end) → OfWalked (λ st'' n. R st' at' st'') (k st' at'))
        → (x : Walked) → OfWalked (S st d) x → OfWalked (λ st'' n. R st d.at st'') (go_on x k)
    turn st d j k go (Refused f) q = tt
    turn st d j k go (Went st' n) q =
        let m = moves st d st' n q in
        let l : In par (cursor n.at c.end) = record { after = m.0.after; within = omega (arith, m.0.within, m.0.end, i.end); end = i.end } in
        last (k st' n.at) (go st' n.at m.1 l)
      where
        last : (x : Walked) → OfWalked (λ st'' e. R st' n.at st'') x → OfWalked (λ st'' e. R st d.at st'') x
        last (Refused f) r = tt
        last (Went st'' e) r = more st d st' n st'' j q r

module _ (s : List ℕ) (bytes : Bytes s) where
  -- an attribute of bag `number` in the body `par` of a set, at c; n is past it
  record AttributeStep (par : Range) (number : ℕ) (st : Rows) (c : Cursor) (st' : Rows) (n : Cursor) : Type 0 where
    value : Attribute
    row : AttributeRow
    valid : ValidAttribute value
    laid : AttributeLaid s c.at n.at number value row
    grown : Grown st st' [] [] (row ∷ []) (opaque_count value.values + 3)
    whole : Span s c.at n.at (attribute_bytes value)
    past : In par n

  attribute_is : (par : Range) (number : ℕ) (st : Rows) (c b n : Cursor) (t : ℕ) (i m v e : Cursor) (k : ℕ) (f : Cursor) → In par c
      → HeaderIs s c sequence_tag b n → length st.attributes < attribute_rows → IdentifierIs s b t i m → HeaderIs s m set_tag v e
      → RunIs opaque_levels s v k f → e.end ≤ e.at
      → AttributeStep par number st c (add_attribute st (attribute_row number (range_of i) (range_of v)) (k + 3)) n
  unfolding attribute_bytes
  attribute_is par number st c b n t i m v e k f h d room g q o z =
      let a = closed_identifier s (range_of b) b t i m (in_body s c sequence_tag b n d) g in
      let x : List ℕ = encodes o.trees in
      let w = closed s (range_of b) m set_tag v e x a.past q o.whole in
      let l : List ℕ = identifier (bytes_of s i) ++ tlv set_tag x in
      let u = closed s par c sequence_tag b n l h d
      (span_to s b.at e.at b.end l (finished (range_of b) e w.past z)
      (span_join s _ _ _ _ _ a.whole w.whole)) in
      let y : opaque_count x ≡ k = opaques_count o.trees o.formed o.levels ∙ sym o.count in
      record {
        value = record { identifier = bytes_of s i; values = x };
        row = attribute_row number (range_of i) (range_of v);
        valid = record { identifier = g.rule; values = record { as_trees = o.trees; formed = o.formed; depth = omega (arith, o.levels); whole = refl } };
        laid =
            record {
              names = refl;
              body = range_of b;
              rest = m.at;
              element = u.child;
              type = a.child;
              values = laid_to b.end (finished (range_of b) e w.past z) w.child;
            };
        grown = rw y (grown_attribute st (attribute_row number (range_of i) (range_of v)) (k + 3) room);
        whole = u.whole;
        past = u.past;
      }

  attribute_of : (par : Range) (number : ℕ) (st : Rows) (c : Cursor) → In par c → OfWalked (AttributeStep par number st c) (attribute_at s number st c)
  unfolding attribute_at
  attribute_of par number st c h =
      by_expect s bytes Good _ (λ f. tt) c sequence_tag _
      (λ b n d.
      by_le Good _ _ attribute_rows (length st.attributes) (λ l. tt)
      (λ l.
      by_identifier s bytes Good _ (λ f. tt) b _
      (λ t i m g.
      by_expect s bytes Good _ (λ f. tt) m set_tag _
      (λ v e q.
      by_elements s bytes Good _ (λ f. tt) v _ (omega (arith, q.body.size)) q.body.inside
      (λ k f o. by_finish Good _ (λ f. tt) e _ (λ z. attribute_is par number st c b n t i m v e k f h d l g q o z))))))
    where
      Good : Walked → Type 0
      Good = OfWalked (AttributeStep par number st c)

  -- the attributes from `at` to the end of the body `par`
  record AttributesRun (par : Range) (number : ℕ) (st : Rows) (at : ℕ) (st' : Rows) : Type 0 where
    values : List Attribute
    rows : List AttributeRow
    valid : ValidAttributes values
    laid : AttributesLaid s number at par.end values rows
    grown : Grown st st' [] [] rows (attributes_count values)
    whole : Span s at par.end (attributes_bytes values)

  attributes_of_lem : (par : Range) (number : ℕ) (st : Rows) (c : Cursor) → par.end ≤ length s → In par c
      → OfWalked (λ st' n. AttributesRun par number st c.at st') (run (attribute_at s number) st c)
  unfolding attributes_bytes attributes_count ValidAttributes attribute_bytes
  attributes_of_lem par number st c l =
      run_of par (attribute_at s number) (AttributeStep par number) (AttributesRun par number) (attribute_of par number)
      (λ st c st' n a. (a.past, omega (arith, a.whole.size, tlv_long sequence_tag (identifier a.value.identifier ++ tlv set_tag a.value.values))))
      (λ st. record { values = []; rows = []; valid = tt; laid = no_attribute_laid; grown = grown_none st; whole = span_empty s par.end l })
      (λ st c st' n st'' i a r.
      record {
        values = a.value ∷ r.values;
        rows = a.row ∷ r.rows;
        valid = (a.valid, r.valid);
        laid = one_attribute a.laid r.laid;
        grown = grown_then st st' st'' [] [] [] [] (a.row ∷ []) r.rows _ _ a.grown r.grown;
        whole = span_join s _ _ _ _ _ a.whole r.whole;
      })
      st c

  -- the set of bag `number` at the end of the bag's body `par`, if there is one
  pub record SetIs (par : Range) (number : ℕ) (st : Rows) (c : Cursor) (st' : Rows) (n : Cursor) : Type 0 where
    pub value : Set
    pub rows : List AttributeRow
    pub valid : ValidSet value
    pub laid : SetLaid s number c.at par.end value rows
    pub grown : Grown st st' [] [] rows (set_count value)
    pub whole : Span s c.at par.end (set_bytes value)
    pub flag : ltb c.at c.end ≡ stands value

  set_is : (par : Range) (number : ℕ) (st : Rows) (c b n : Cursor) (st' : Rows) → In par c → HeaderIs s c set_tag b n
      → AttributesRun (range_of b) number (counting st 1) b.at st' → n.end ≤ n.at → SetIs par number st c st' n
  unfolding set_bytes
  set_is par number st c b n st' h d a z =
      let u = closed s par c set_tag b n (attributes_bytes a.values) h d a.whole in
      record {
        value = present a.values;
        rows = a.rows;
        valid = a.valid;
        laid = one_set (range_of b) (laid_to par.end (finished par n u.past z) u.child) a.laid;
        grown = grown_as st st' _ _ _ _ _ (omega arith) (grown_then st (counting st 1) st' [] [] [] [] [] a.rows 1 _ (grown_counting st 1) a.grown);
        whole = span_to s c.at n.at par.end _ (finished par n u.past z) u.whole;
        flag = lt-ltb c.at c.end (omega (arith, u.whole.size, u.past.within, u.past.end, h.end, tlv_long set_tag (attributes_bytes a.values)));
      }

  pub set_of_lem : (par : Range) (number : ℕ) (st : Rows) (c : Cursor) → In par c → par.end ≤ length s → OfWalked (SetIs par number st c) (set_at s number st c)
  unfolding set_at set_bytes
  set_of_lem par number st c h l =
      by_eq Good _ _ (tag_at s c) set_tag
      (λ t.
      by_expect s bytes Good _ (λ f. tt) c set_tag _
      (λ b n d.
      by_walked Good _ (λ f. tt) (λ st' f. AttributesRun (range_of b) number (counting st 1) b.at st') _
      (λ st' f a. by_finish Good _ (λ f. tt) n _ (λ z. set_is par number st c b n st' h d a z))
      (run (attribute_at s number) (counting st 1) b)
      (attributes_of_lem (range_of b) number (counting st 1) b d.body.inside (in_body s c set_tag b n d))))
      (λ t.
      by_finish Good _ (λ f. tt) c _
      (λ z.
      record {
        value = absent;
        rows = [];
        valid = tt;
        laid = rw (finished par c h z) no_set;
        grown = grown_none st;
        whole = rw (finished par c h z) (span_empty s par.end l);
        flag = le-ltb c.at c.end z;
      }))
    where
      Good : Walked → Type 0
      Good = OfWalked (SetIs par number st c)
