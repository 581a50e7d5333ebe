-- Texts that more follows in a code.
use Rattle.std.specs.Prelude.{ℕ, ◌==◌, if◌then◌else◌, List, [], ◌∷◌, Option, Some, None, option_map}

-- a byte of a text that more follows: 00 as 00 01
abbrev pub escaped_byte : ℕ → List ℕ
escaped_byte c = if c == 0 then 0 ∷ 1 ∷ [] else c ∷ []

-- a text that more follows: each byte 00 as 00 01, and 00 00 at the end
abbrev pub escaped : List ℕ → List ℕ
escaped [] = 0 ∷ 0 ∷ []
escaped (c ∷ rest) = if c == 0 then 0 ∷ 1 ∷ escaped rest else c ∷ escaped rest

-- what is put before the text that was read, and what follows it
abbrev pub put_before : ℕ → Option (List ℕ × List ℕ) → Option (List ℕ × List ℕ)
put_before c = option_map (λ p. (c ∷ p.0, p.1))

-- the text at the front of the bytes, and the bytes after its end mark
unfoldable pub unescaped : List ℕ → Option (List ℕ × List ℕ)
unescaped [] = None
unescaped (c ∷ []) = None
unescaped (c ∷ d ∷ rest) =
    if c == 0 then (if d == 0 then Some ([], rest) else (if d == 1 then put_before 0 (unescaped rest) else None))
    else put_before c (unescaped (d ∷ rest))
