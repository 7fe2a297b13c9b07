-- What is proved of refusals. `read_file` is the walk that the reading call follows; `account_of` is
-- the account of byte lists, which has every tag, identifier, size and number of its own. Only
-- `outermost_overrun_iff` requires that the numbers of a list are bytes.
use mathlib.Core.Logic.{◌↔◌, ◌⊎◌}
use mathlib.Core.Path.{◌≡◌}
use mathlib.Core.List.{List, [], ◌++◌}
use Prim.Native.Nat.{ℕ, ◌≤◌, ◌<◌}
use lib.ListN.{length}
use Rattle.der.specs.Element.{fault, whole_of}
use Rattle.der.specs.Span.{Bytes}
use Rattle.der.specs.Overrun.{RunsPast}
use Rattle.pkcs12.specs.Walk.{read_file}
use Rattle.pkcs12.specs.Accepted.{IsAccepted}
use Rattle.std.specs.Prelude.{Err}
use Rattle.refusals.specs.Element.{left, Made, stops, goes}
use Rattle.refusals.specs.Grammar.{account_of}
use Rattle.refusals.proofs.Refused as refused
use Rattle.refusals.proofs.Outermost as outermost

-- A file is refused by n at p if and only if the account stops with n at p.
pub refused_iff : (f : List ℕ) (n p : ℕ) → (read_file f).answer ≡ Err (fault n p) ↔ account_of f ≡ stops n p
refused_iff f n p = (refused.refused_stops f n p, refused.stops_refused f n p)

-- A file is accepted if and only if the account goes on to the end of the file.
pub accepted_iff : (f : List ℕ) → IsAccepted f ↔ ((made : Made) × (account_of f ≡ goes made (left (length f) [])))
accepted_iff f = (refused.accepted_goes f, λ p. refused.goes_accepted f p.0 (left (length f) []) p.1)

-- The number of a refusal is 1 to 9 or 15, and its offset is at most the file's length.
pub refusal_number : (f : List ℕ) (n p : ℕ) → (read_file f).answer ≡ Err (fault n p)
    → ((1 ≤ n) × (n ≤ 9)) ⊎ (n ≡ 15)
refusal_number f n p e = (refused.refusal_of_lem f n p e).0

pub refusal_offset : (f : List ℕ) (n p : ℕ) → (read_file f).answer ≡ Err (fault n p) → p ≤ length f
refusal_offset f n p e = (refused.refusal_of_lem f n p e).1

-- Rules 5.9, 5.37: the number is 9 if and only if the file has more than 65,535 bytes, and then the
-- offset is 0.
pub refused_9_iff : (f : List ℕ) (p : ℕ) → (read_file f).answer ≡ Err (fault 9 p) ↔ (65535 < length f)
    × (p ≡ 0)
refused_9_iff f p = (refused.nine_is_long f p, λ h. rw h.1 (refused.long_is_9 f h.0))

-- A file is refused by 1 at 0 if and only if it is empty.
pub empty_iff : (f : List ℕ) → (read_file f).answer ≡ Err (fault 1 0) ↔ f ≡ []
empty_iff f = (outermost.empty_sound f, outermost.empty_complete f)

-- A file is refused by 15 at 0 if and only if its outermost element runs past its end, and it isn't
-- too long.
pub outermost_overrun_iff : (f : List ℕ) → Bytes f
    → (read_file f).answer ≡ Err (fault 15 0) ↔ (length f ≤ 65535) × RunsPast f (whole_of f)
outermost_overrun_iff f bytes = (outermost.overrun_sound f bytes, outermost.overrun_complete f bytes)

-- Every proper beginning f of an accepted file g is refused by 15 at 0 if it has at least one byte;
-- the empty one is refused by 1 at 0, as above.
pub beginning_refused : (f g r : List ℕ) → IsAccepted g → f ++ r ≡ g → (f ≡ [] → ⊥) → (r ≡ [] → ⊥)
    → (read_file f).answer ≡ Err (fault 15 0)
beginning_refused = refused.cut_refused

-- An accepted file f with at least one byte after it is refused by 6 at its length, if the whole
-- has at most 65,535 bytes.
pub bytes_after_refused : (f r : List ℕ) → IsAccepted f → (r ≡ [] → ⊥) → length (f ++ r) ≤ 65535
    → (read_file (f ++ r)).answer ≡ Err (fault 6 (length f))
bytes_after_refused = refused.after_refused
