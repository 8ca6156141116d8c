-- A line of the worked examples, and what its parts write. No rule of document 01 is here.
use Rattle.std.specs.Prelude.{ℕ, ◌-◌, Bool, true, false, cond, not, ◌||◌, List, [], ◌∷◌, eqb, ltb, take, drop, Option, Some, None, unwrap_or}
use Rattle.std.specs.List.{position_or_len}
use Rattle.notation.specs.declared.Reading.{Reading}
use Rattle.notation.specs.Reading.{start, read_all, filled}

-- the place of the first byte b of a text, or the text's length where there is none
abbrev pub index_of : ℕ → List ℕ → ℕ
index_of b text = position_or_len (λ c. eqb c b) text

abbrev pub between : ℕ → ℕ → List ℕ → List ℕ
between start end line = take (end - start) (drop start line)

abbrev pub part_to : ℕ → ℕ → List ℕ → List ℕ
part_to from end line = between (index_of from (take end line)) end line

-- the part from one mark up to another, or to the end
unfoldable pub part : ℕ → ℕ → List ℕ → List ℕ
part from to line = part_to from (index_of to line) line

-- what is read of a part
abbrev pub part_read : ℕ → ℕ → List ℕ → Reading
part_read from to line = read_all start (part from to line)

abbrev pub end_by : Reading → Option ℕ
end_by s = cond s.readable (Some s.at) None

-- the place behind the last byte of a part, or none if it cannot be read
unfoldable pub end_of : ℕ → ℕ → List ℕ → Option ℕ
end_of from to line = end_by (part_read from to line)

abbrev pub number_by : Bool → Reading → Option ℕ
number_by decimal s = cond (not s.readable || ltb 5 s.at) None (Some (cond decimal s.decimal s.number))

-- the number that a part of at most five bytes makes
unfoldable pub number_of : ℕ → ℕ → Bool → List ℕ → Option ℕ
number_of from to decimal line = number_by decimal (part_read from to line)

abbrev pub end_within : ℕ → ℕ
end_within n = cond (ltb n 1) 1 (cond (ltb 66 n) 66 n)

-- the end of the answer, which stands from > up to |, at least 1 and at most 66
unfoldable pub answer_end : List ℕ → ℕ
answer_end line = end_within (unwrap_or (end_of 62 124 line) 66)

-- whether a list goes on like another
unfoldable pub same : List ℕ → List ℕ → Bool
same [] b = true
same (x ∷ a) [] = false
same (x ∷ a) (y ∷ b) = cond (eqb x y) (same a b) false

abbrev pub is_filled : Option ℕ → List ℕ → List ℕ → Bool
is_filled None bytes got = false
is_filled (Some end) bytes got = cond (ltb 66 end) false (same got bytes)

-- whether what was got is what a part makes of the bytes
unfoldable pub is_written : ℕ → ℕ → List ℕ → List ℕ → List ℕ → Bool
is_written from to line bytes got = is_filled (end_of from to line) (filled start (part from to line) bytes) got
