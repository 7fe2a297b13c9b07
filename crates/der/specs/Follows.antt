-- What it means that the bytes at a cursor follow X.690: the statements that the readings are
-- proved equivalent to.
use Rattle.std.specs.Prelude.{◌≡◌, List, ℕ, ◌≤◌, ◌<◌, length}
use Rattle.der.specs.Numbers.{length_bound, integer_bound, identifier_tag, integer_tag}
use Rattle.der.specs.Element.{cursor}
use Rattle.der.specs.Content.{bytes_of}
use Rattle.der.specs.Octets.{tlv, integer_octets, TagForm, IdentifierRule}
use Rattle.der.specs.Span.{Span}
use Rattle.der.specs.Tree.{Tree, Trees, encode, encodes, elements, elements_in, depth, deepest, Formed}
use Rattle.der.specs.Tree.{AllFormed}
use Rattle.der.specs.declared.Cursor.{Cursor}

-- the cursor n is c moved on to `stop`, within c's parent and the bytes
pub record Moved (s : List ℕ) (c : Cursor) (stop : ℕ) (n : Cursor) : Type 0 where
  pub within : stop ≤ c.end
  pub inside : c.end ≤ length s
  pub next : n ≡ cursor stop c.end

-- an element begins at c: its tag t, its body b, and the cursor n past it
pub record HeaderIs (s : List ℕ) (c : Cursor) (t : ℕ) (b n : Cursor) : Type 0 where
  pub form : TagForm t
  pub small : length (bytes_of s b) < length_bound
  pub body : Span s b.at b.end (bytes_of s b)
  pub whole : Span s c.at b.end (tlv t (bytes_of s b))
  pub moved : Moved s c b.end n

-- an identifier begins at c
pub record IdentifierIs (s : List ℕ) (c : Cursor) (t : ℕ) (b n : Cursor) : Type 0 where
  pub tag : t ≡ identifier_tag
  pub header : HeaderIs s c t b n
  pub rule : IdentifierRule (bytes_of s b)

-- the INTEGER v begins at c
pub record IntegerIs (s : List ℕ) (c : Cursor) (v : ℕ) (n : Cursor) : Type 0 where
  pub small : v < integer_bound
  pub whole : Span s c.at n.at (tlv integer_tag (integer_octets v))
  pub moved : Moved s c n.at n

-- a tree of l levels at most begins at c: m elements
pub record OpaqueIs (l : ℕ) (s : List ℕ) (c : Cursor) (m : ℕ) (n : Cursor) : Type 0 where
  pub tree : Tree
  pub formed : Formed tree
  pub levels : depth tree ≤ l
  pub count : m ≡ elements tree
  pub whole : Span s c.at n.at (encode tree)
  pub moved : Moved s c n.at n

-- trees of l levels at most fill c: m elements
pub record RunIs (l : ℕ) (s : List ℕ) (c : Cursor) (m : ℕ) (n : Cursor) : Type 0 where
  pub trees : Trees
  pub formed : AllFormed trees
  pub levels : deepest trees ≤ l
  pub count : m ≡ elements_in trees
  pub whole : Span s c.at c.end (encodes trees)
  pub next : n ≡ cursor c.end c.end
