-- How bytes are passed at once. Nobody has to believe this: `take` is `taken`, which takes them
-- one by one.
use Rattle.std.specs.Prelude.{ℕ, ◌-◌, ltb}
use Rattle.std.specs.Prelude.{if◌then◌else◌}
use Rattle.header.specs.declared.Due.{Due}
use Rattle.header.specs.declared.Due.TheVariants.{Tag, Length, One, First, Second, Body, Nothing}
use Rattle.stream.specs.declared.Upload.{Upload}
use Rattle.stream.specs.Upload.{passed}

-- how many of the next bytes don't matter: those of a body that isn't examined, and all after a
-- fault
unfoldable pub bulk_of : Due → ℕ → ℕ
bulk_of (Tag at) left = 0
bulk_of (Length at t) left = 0
bulk_of (One at t) left = 0
bulk_of (First at t) left = 0
bulk_of (Second at t h) left = 0
bulk_of (Body at e) left = if ltb at e then (if ltb left (e - at) then left else e - at) else 0
bulk_of Nothing left = 0
bulk_of (Due.Refused n p after) left = left

-- what so many of them make of an upload
abbrev pub skipped : Upload → Due → ℕ → Upload
skipped u (Tag at) k = u
skipped u (Length at t) k = u
skipped u (One at t) k = u
skipped u (First at t) k = u
skipped u (Second at t h) k = u
skipped u (Body at e) k = passed u at e k
skipped u Nothing k = u
skipped u (Due.Refused n p after) k = u
