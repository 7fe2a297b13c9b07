-- The uploads whose fields fit: those that come back from their cells as they were.
use Rattle.std.specs.Prelude.{◌≡◌, ℕ, ◌<◌, length}
use Rattle.der.specs.Named.{Each}
use Rattle.header.specs.declared.Due.{Due}
use Rattle.header.specs.declared.Due.TheVariants.{Tag, Length, One, First, Second, Body, Nothing}
use Rattle.stream.specs.declared.Upload.{Upload}
use Rattle.cells.specs.Cells.{end_count}

-- numbers of 8, 16 and 32 bits
abbrev pub Small : ℕ → Type 0
Small n = n < 256

abbrev pub Short : ℕ → Type 0
Short n = n < 65_536

abbrev pub Long : ℕ → Type 0
Long n = n < 4_294_967_296

-- each number of what is due fits its field
abbrev pub DueFits : Due → Type 0
DueFits (Tag at) = Short at
DueFits (Length at t) = Short at × Small t
DueFits (One at t) = Short at × Small t
DueFits (First at t) = Short at × Small t
DueFits (Second at t h) = Short at × (Small t × Small h)
DueFits (Body at e) = Short at × Short e
DueFits Nothing = Unit {0}
DueFits (Due.Refused n p after) = Small n × (Short p × Long after)

-- each field fits, and there are twenty ends
pub record Fitting (u : Upload) : Type 0 where
  pub total : Short u.total
  pub due : DueFits u.due
  pub depth : Small u.depth
  pub elements : Short u.elements
  pub level : Small u.level
  pub ends : Each Short u.ends
  pub twenty : length u.ends ≡ end_count
