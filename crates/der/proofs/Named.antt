-- Tables of names and what they are named for, computed.
use mathlib.Core.Path.{◌≡◌}
use mathlib.Core.List.{List, [], ◌∷◌, map}
use Rattle.der.specs.Named.{Each, Named}

-- where the names of a table are its numbers, each is
pub each_named : {A : Type 0} (rows : List (A × A)) → map (λ r. r.0) rows ≡ map (λ r. r.1) rows → Named rows
unfolding Each
each_named [] e = tt
each_named (r ∷ rows) e = (cc, each_named rows (cc))
