-- What stands around the fields of an INFO sequence (V.34, Tables 14 and 15), n being how many bits they have:
--
--     bits 0 to 3         fill, 1111
--     bits 4 to 11        sync, 01110010, the leftmost bit first
--     from bit 12 on      n bits of fields, and then the 16 of their check
--     the last four       fill, 1111
use Rattle.std.specs.Prelude.{List, [], ◌∷◌, ◌++◌, ℕ, ◌+◌}
use Rattle.sequences.specs.Picture.{fixed, places}
use Rattle.sequences.specs.Register.{crc}

unfoldable pub fill : List ℕ
fill = 1 ∷ 1 ∷ 1 ∷ 1 ∷ []

unfoldable pub sync : List ℕ
sync = 0 ∷ 1 ∷ 1 ∷ 1 ∷ 0 ∷ 0 ∷ 1 ∷ 0 ∷ []

-- the sequence whose bits of fields are these
abbrev pub sent : List ℕ → List ℕ
sent said = fill ++ (sync ++ (said ++ (crc said ++ fill)))

-- the picture with n bits of fields
unfoldable pub framed : ℕ → List ℕ
framed n = fixed (fill ++ sync) ++ (places (n + 16) ++ fixed fill)
