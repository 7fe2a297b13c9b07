-- Tables of names and what they are named for.
use Rattle.std.specs.Prelude.{List, [], ◌∷◌, ◌≡◌}

-- P of each of a list
unfoldable pub Each : {A : Type 0} → (A → Type 0) → List A → Type 0
Each P [] = Unit {0}
Each P (x ∷ xs) = P x × Each P xs

-- each name is what is beside it
abbrev pub Named : {A : Type 0} → List (A × A) → Type 0
Named rows = Each (λ r. r.0 ≡ r.1) rows
