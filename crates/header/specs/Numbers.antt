-- The numbers that only uploads have.
use Rattle.std.specs.Prelude.{ℕ}

-- Rule 5.19: more bytes than were announced
abbrev pub surplus : ℕ
surplus = 19

-- Rule 5.20: the end of an upload that has fewer bytes than were announced
abbrev pub early : ℕ
early = 20

-- Rule 10.2: the levels of an upload
abbrev pub upload_levels : ℕ
upload_levels = 20
